-- The mission's week of one block, computed.
use mathlib.Core.Path.{◌≡◌, refl}
use mathlib.Core.Bool.{Bool, true, cond, ◌&&◌}
use mathlib.Core.List.{List, [], ◌∷◌, ◌++◌}
use lib.Dec.{eqb}
use lib.ListN.{replicate}
use Rattle.geometry.specs.Geometry.{table_sector}
use Prim.Native.Nat.{ℕ}
use Rattle.image.specs.FormB.{form_b}
use Rattle.drive.specs.declared.Drive.{Drive}
use Rattle.drive.specs.History.{held, Sectors}
use Rattle.drive.specs.Run.{after_all}
use Rattle.drive.specs.Surface.{old}
use Rattle.drive.proofs.Computing.{computed}
use Rattle.drive.proofs.Transcripts.{holds, Exchange, ◌⇒◌, cuts, Run, from, calls, Happens, happens, bytes, disk, sector, go, gives, done, garbles, times_out, found, found_b, opens, asks_read, asks_write, rereads, trial, read, write, store, finished}

-- THE WEEK OF ONE BLOCK. The host asks for two rereads and sets the threshold at 2.

abbrev monday : List Exchange
monday =
    opens ++ asks_write 1 17 (bytes 1) ++ (go ⇒ write 17 ∷ done ⇒ finished 0x00 0x00 0x80 0 ∷ [])
    ++ opens ++ asks_read 17 2 2 ++ (go ⇒ read 17 ∷ gives 1 ⇒ finished 0x00 0x00 0x00 0 ∷ [])

-- Two rereads, and it comes good.
abbrev tuesday : List Exchange
tuesday =
    opens ++ asks_read 17 2 2 ++ (go ⇒ read 17 ∷ garbles 9 ⇒ read 17 ∷ garbles 9 ⇒ read 17 ∷ gives 1 ⇒ finished 0x08 0x00 0x00 1 ∷ [])

-- Both rereads fail; it is rewritten and reread a hundred times, no reread is good, and it moves with its bytes: the sparing bit.
-- Before it finishes the spare table goes to disk.
abbrev wednesday : List Exchange
wednesday =
    opens ++ asks_read 17 2 2
    ++ (go ⇒ read 17 ∷ garbles 9 ⇒ read 17 ∷ garbles 9 ⇒ read 17 ∷ times_out ⇒ read 17 ∷ gives 1 ⇒ write 17 ∷ done ⇒ read 17 ∷ [])
    ++ rereads 17 (replicate 100 (garbles 9)) (write 4928) ++ trial 4928 1 (garbles 9) store ++ (done ⇒ finished 0x0C 0x04 0x00 2 ∷ [])

-- The host raises CMD, and the drive offers 01: the spare table is on the disk, and nothing is stored.
abbrev thursday : List Exchange
thursday = opens

-- The workshop was switched off with that offer standing. The drive starts from what Wednesday stored, and the layout is written.
abbrev friday : List Exchange
friday =
    (cuts old ∷ []) ++ found_b 1 (17 ∷ []) (1 ∷ []) []
    ++ opens ++ asks_write 2 17 (bytes 2) ++ (go ⇒ write 4928 ∷ done ⇒ read 4928 ∷ gives 2 ⇒ finished 0x00 0x00 0x80 0 ∷ [])

abbrev saturday : List Exchange
saturday = opens ++ asks_read 17 2 2 ++ (go ⇒ read 4928 ∷ gives 2 ⇒ finished 0x00 0x00 0x00 0 ∷ [])

-- The whole week.
abbrev pub week : Run
week =
    record {
      sectors = disk [] [];
      exchanges = found [] [] ++ monday ++ tuesday ++ wednesday ++ thursday ++ friday ++ saturday;
      part = bytes 2;
      place = sector 4928;
      candidates = bytes 2 ∷ [];
    }

pub on_saturday_the_new_bytes_are_read : (given : Drive) → Happens given week
unfolding computed
on_saturday_the_new_bytes_are_read given = happens given week refl

-- Returns the table that Wednesday's store writes: form B with run number 1, since it is the first store, and for the moved block a
-- CRC error, the last failure before its spare was tried.
abbrev wednesdays_table : List ℕ
wednesdays_table = form_b 1 (17 ∷ []) (1 ∷ []) []

-- Returns what the week leaves on the disk: the table, the new bytes at the spare, and Monday's at the old sector.
abbrev weekend : Sectors
weekend = λ s. held (cond (eqb s.0 4960) wednesdays_table (cond (eqb s.0 4928) (bytes 2) (cond (eqb s.0 17) (bytes 1) (bytes 7))))

-- Says whether the disk holds the same at the sectors that the week wrote.
abbrev leaves : Sectors → Bool
leaves σ =
    holds (σ table_sector) wednesdays_table && (holds (σ (record { 0 = 4928 })) (bytes 2) && holds (σ (record { 0 = 17 })) (bytes 1))

pub the_week_leaves_its_bytes_on_the_disk : (given : Drive) → leaves (after_all (from given week) (calls week)).sectors ≡ true
unfolding computed
the_week_leaves_its_bytes_on_the_disk given = refl

-- Starts again, and reads.
abbrev week_after : Run
week_after =
    record {
      sectors = weekend;
      exchanges = found_b 1 (17 ∷ []) (1 ∷ []) [] ++ opens ++ asks_read 17 2 2 ++ (go ⇒ read 4928 ∷ gives 2 ⇒ finished 0x00 0x00 0x80 0 ∷ []);
      part = bytes 2;
      place = sector 4928;
      candidates = bytes 2 ∷ [];
    }

pub the_next_start_finds_the_block_at_its_spare : (given : Drive) → Happens given week_after
unfolding computed
the_next_start_finds_the_block_at_its_spare given = happens given week_after refl
