-- A MOVE THAT IS CUT OFF, at each kind of its accesses, or whose store is not done, computed: where the block is then, and after the
-- next start. Document 02, request 7.
use mathlib.Core.Path.{◌≡◌, refl}
use mathlib.Core.Bool.{cond}
use mathlib.Core.List.{List, [], ◌∷◌, ◌++◌}
use Prim.Native.Nat.{ℕ}
use lib.Dec.{eqb}
use lib.ListN.{replicate}
use Rattle.drive.specs.declared.Drive.{Drive}
use Rattle.drive.specs.History.{Content, held, unreadable, Sectors}
use Rattle.drive.specs.Run.{after_all}
use Rattle.drive.specs.Surface.{Fate, old, new, spoiled}
use Rattle.drive.specs.Views.{Bytes, Where}
use Rattle.drive.proofs.Computing.{computed}
use Rattle.runs.proofs.Cuts.{finds_at_home, finds_nothing, to_the_write, cut_then_read}
use Rattle.drive.proofs.Transcripts.{Said, Exchange, ◌⇒◌, cuts, Run, history, from, calls, Happens, happens, bytes, disk, sector, go, gives, done, garbles, times_out, unsettled, found, found_b, opens, stored, asks_read, asks_write, rereads, asks_health, health_block, wait, read, write, store, finished}

-- THE ACCESSES OF A READ THAT MOVES ITS BLOCK, up to each of them

abbrev to_the_first_read : List Exchange
to_the_first_read = opens ++ asks_read 17 0 0 ++ (go ⇒ read 17 ∷ [])

abbrev to_areread : List Exchange
to_areread = to_the_first_read ++ (garbles 9 ⇒ read 17 ∷ [])

abbrev to_the_trials_write : List Exchange
to_the_trials_write = to_areread ++ (gives 7 ⇒ write 17 ∷ [])

abbrev to_the_trials_reread : List Exchange
to_the_trials_reread = to_the_trials_write ++ (done ⇒ read 17 ∷ gives 7 ⇒ read 17 ∷ [])

abbrev to_the_spares_write : List Exchange
to_the_spares_write = to_the_trials_write ++ (times_out ⇒ write 4928 ∷ [])

abbrev to_the_spares_reread : List Exchange
to_the_spares_reread = to_the_spares_write ++ (done ⇒ read 4928 ∷ garbles 7 ⇒ read 4928 ∷ [])

-- Awaits the last reread of the spare, by which it would pass and the block would move.
abbrev to_the_last_reread : List Exchange
to_the_last_reread = to_the_spares_write ++ (done ⇒ read 4928 ∷ []) ++ rereads 4928 (replicate 99 (gives 7)) (read 4928)

-- Holds an eight at spare 0, and sevens.
abbrev eight_at_spare : Sectors
eight_at_spare = λ s. cond (eqb s.0 4928) (held (bytes 8)) (disk [] [] s)

-- Cuts the read there with what is pending left so, starts, and finds the sevens at home.
abbrev read_cut : List Exchange → Fate → Run
read_cut xs f = record { sectors = eight_at_spare; exchanges = found [] [] ++ xs ++ (cuts f ∷ finds_at_home 7); part = bytes 7; place = sector 17; candidates = bytes 7 ∷ [] }

-- Returns what spare 0 holds after a run.
abbrev at_spare : Drive → Run → Content
at_spare given r = (after_all (from given r) (calls r)).sectors (record { 0 = 4928 })

-- Nothing is pending but a read, and a read changes nothing.
pub a_cut_at_a_read_changes_nothing :
    (given : Drive)
    → Happens given (read_cut to_the_first_read spoiled)
    × Happens given (read_cut to_areread new)
    × Happens given (read_cut to_the_trials_reread spoiled)
    × Happens given (read_cut to_the_spares_reread spoiled)
    × Happens given (read_cut to_the_last_reread spoiled)
    × (at_spare given (read_cut to_the_last_reread spoiled) ≡ held (bytes 7))
unfolding computed
a_cut_at_a_read_changes_nothing given = (
  happens given (read_cut to_the_first_read spoiled) refl,
  happens given (read_cut to_areread new) refl,
  happens given (read_cut to_the_trials_reread spoiled) refl,
  happens given (read_cut to_the_spares_reread spoiled) refl,
  happens given (read_cut to_the_last_reread spoiled) refl,
  refl,
)

-- The bytes that a read writes again are the block's, and the spare is no block's yet.
pub a_cut_at_a_reads_write_leaves_its_bytes :
    (given : Drive)
    → Happens given (read_cut to_the_trials_write old) × Happens given (read_cut to_the_trials_write new) × Happens given (read_cut to_the_spares_write old) × Happens given (read_cut to_the_spares_write new) × Happens given (read_cut to_the_spares_write spoiled)
unfolding computed
a_cut_at_a_reads_write_leaves_its_bytes given = (
  happens given (read_cut to_the_trials_write old) refl,
  happens given (read_cut to_the_trials_write new) refl,
  happens given (read_cut to_the_spares_write old) refl,
  happens given (read_cut to_the_spares_write new) refl,
  happens given (read_cut to_the_spares_write spoiled) refl,
)

-- What a cut at the spare's write leaves there is what it held, the block's bytes, or nothing that can be read.
pub a_cut_leaves_the_spare_old_new_or_unreadable :
    (given : Drive)
    → (at_spare given (read_cut to_the_spares_write old) ≡ held (bytes 8))
    × (at_spare given (read_cut to_the_spares_write new) ≡ held (bytes 7))
    × (at_spare given (read_cut to_the_spares_write spoiled) ≡ unreadable)
unfolding computed
a_cut_leaves_the_spare_old_new_or_unreadable given = (refl, refl, refl)

-- The trial's write leaves the present sector unreadable: no read of the block is good, and its candidate stays.
abbrev pub rewrite_unreadable : Run
rewrite_unreadable =
    record {
      sectors = disk [] [];
      exchanges = found [] [] ++ to_the_trials_write ++ (cuts spoiled ∷ finds_nothing);
      part = bytes 0;
      place = sector 17;
      candidates = bytes 7 ∷ [];
    }

pub a_cut_can_leave_the_present_sector_unreadable : (given : Drive) → Happens given rewrite_unreadable × ((after_all (from given rewrite_unreadable) (calls rewrite_unreadable)).sectors (record { 0 = 17 }) ≡ unreadable)
unfolding computed
a_cut_can_leave_the_present_sector_unreadable given = (happens given rewrite_unreadable refl, refl)

-- THE ACCESSES OF A WRITE THAT MOVES ITS BLOCK, after its first one

-- Asks for its verify.
abbrev to_the_verify : List Exchange
to_the_verify = to_the_write ++ (done ⇒ read 17 ∷ [])

-- Goes on to a spare after a timeout, and rereads it.
abbrev to_the_spare : List Exchange
to_the_spare = to_the_write ++ (times_out ⇒ write 4928 ∷ [])

abbrev to_the_spares_verify : List Exchange
to_the_spares_verify = to_the_spare ++ (done ⇒ read 4928 ∷ [])

pub a_write_cut_off_later_leaves_the_present_sector :
    (given : Drive)
    → Happens given (cut_then_read to_the_verify spoiled 1)
    × Happens given (cut_then_read to_the_spare old 7)
    × Happens given (cut_then_read to_the_spare new 7)
    × Happens given (cut_then_read to_the_spare spoiled 7)
    × Happens given (cut_then_read to_the_spares_verify new 7)
unfolding computed
a_write_cut_off_later_leaves_the_present_sector given = (
  happens given (cut_then_read to_the_verify spoiled 1) refl,
  happens given (cut_then_read to_the_spare old 7) refl,
  happens given (cut_then_read to_the_spare new 7) refl,
  happens given (cut_then_read to_the_spare spoiled 7) refl,
  happens given (cut_then_read to_the_spares_verify new 7) refl,
)

-- THE MOVES, each up to its store

-- Writes ones to block n with verify: the write times out, and spare 0 passes its trial.
abbrev write_moves : ℕ → Said → List Exchange
write_moves n end = opens ++ asks_write 2 n (bytes 1) ++ (go ⇒ write n ∷ times_out ⇒ write 4928 ∷ done ⇒ read 4928 ∷ []) ++ rereads 4928 (replicate 100 (gives 1)) end

-- Reads block 17 at its threshold: no reread of its trial is good, and spare 0 passes.
abbrev read_moves : List Exchange
read_moves =
    opens ++ asks_read 17 0 0 ++ (go ⇒ read 17 ∷ garbles 9 ⇒ read 17 ∷ gives 7 ⇒ write 17 ∷ done ⇒ read 17 ∷ [])
    ++ rereads 17 (replicate 100 (garbles 9)) (write 4928) ++ (done ⇒ read 4928 ∷ []) ++ rereads 4928 (replicate 100 (gives 7)) store

-- Reads block 17 at this sector, good, with this byte; and finds no table.
abbrev finds : ℕ → ℕ → ℕ → List Exchange
finds s v status3 = opens ++ asks_read 17 0 1 ++ (go ⇒ read s ∷ gives v ⇒ finished 0x00 0x00 status3 0 ∷ [])

abbrev finds_no_table : List Exchange
finds_no_table = replicate 9 (times_out ⇒ read 4960) ++ (garbles 9 ⇒ wait ∷ []) ++ opens ++ asks_read 17 0 1 ++ (go ⇒ finished 0x01 0x08 0x80 0 ∷ [])

-- CUT OFF AT THE STORE: the block is where it was, or at its spare, or there is no table.

abbrev cut_then : List Exchange → Fate → List Exchange → Bytes → Where → List Bytes → Run
cut_then xs f ys part place candidates = record { sectors = eight_at_spare; exchanges = found [] [] ++ xs ++ (cuts f ∷ ys); part = part; place = place; candidates = candidates }

-- A write/verify: the old bytes at the old place, the new ones at the spare, or neither; until a read is good both are candidates.
abbrev pub write_cut_old : Run
write_cut_old = cut_then (write_moves 17 store) old (found [] [] ++ finds 17 7 0x80) (bytes 7) (sector 17) (bytes 7 ∷ [])

abbrev pub write_cut_new : Run
write_cut_new = cut_then (write_moves 17 store) new (found_b 1 (17 ∷ []) (2 ∷ []) [] ++ finds 4928 1 0x80) (bytes 1) (sector 4928) (bytes 1 ∷ [])

abbrev write_cut_unreadable : Run
write_cut_unreadable = cut_then (write_moves 17 store) spoiled finds_no_table (bytes 0) (sector 17) (bytes 1 ∷ bytes 7 ∷ [])

pub a_write_cut_off_at_its_store : (given : Drive) → Happens given write_cut_old × Happens given write_cut_new × Happens given write_cut_unreadable
unfolding computed
a_write_cut_off_at_its_store given = (happens given write_cut_old refl, happens given write_cut_new refl, happens given write_cut_unreadable refl)

-- A read: the same bytes at either place, or no table.
abbrev read_cut_old : Run
read_cut_old = cut_then read_moves old (found [] [] ++ finds 17 7 0x80) (bytes 7) (sector 17) (bytes 7 ∷ [])

abbrev read_cut_new : Run
read_cut_new = cut_then read_moves new (found_b 1 (17 ∷ []) (1 ∷ []) [] ++ finds 4928 7 0x80) (bytes 7) (sector 4928) (bytes 7 ∷ [])

abbrev read_cut_unreadable : Run
read_cut_unreadable = cut_then read_moves spoiled finds_no_table (bytes 0) (sector 17) (bytes 7 ∷ [])

pub a_read_cut_off_at_its_store : (given : Drive) → Happens given read_cut_old × Happens given read_cut_new × Happens given read_cut_unreadable
unfolding computed
a_read_cut_off_at_its_store given = (happens given read_cut_old refl, happens given read_cut_new refl, happens given read_cut_unreadable refl)

-- Cuts after a whole trial of the present sector, at the spare's write: the spare is left unreadable, and the block is where it was.
abbrev after_atrial : Run
after_atrial =
    cut_then
    (opens ++ asks_read 17 0 0 ++ (go ⇒ read 17 ∷ garbles 9 ⇒ read 17 ∷ gives 7 ⇒ write 17 ∷ done ⇒ read 17 ∷ []) ++ rereads 17 (replicate 100 (garbles 9)) (write 4928))
    spoiled (found [] [] ++ finds 17 7 0x80) (bytes 7) (sector 17) (bytes 7 ∷ [])

pub a_read_cut_off_at_its_spares_write : (given : Drive) → Happens given after_atrial
unfolding computed
a_read_cut_off_at_its_spares_write given = happens given after_atrial refl

-- NOT DONE

-- The store times out: failed, and the sparing bit all the same. The block is at its spare, both bytes are candidates, and the place
-- is unstored.
abbrev pub store_late : Run
store_late =
    record {
      sectors = disk [] [];
      exchanges = found [] [] ++ write_moves 17 store ++ (times_out ⇒ finished 0x05 0x04 0x80 0 ∷ []) ++ opens ++ asks_health 0x00;
      part = health_block 31 0 0 1;
      place = sector 4928;
      candidates = bytes 1 ∷ bytes 7 ∷ [];
    }

pub a_move_whose_store_is_not_done_is_told_and_fails : (given : Drive) → Happens given store_late
unfolding computed
a_move_whose_store_is_not_done_is_told_and_fails given = happens given store_late refl

-- The next command for a block stores it: the read is good, and the next start finds the block at its spare, by the second store.
abbrev stored_next : Run
stored_next =
    record {
      sectors = disk [] [];
      exchanges =
          found [] [] ++ write_moves 17 store ++ (times_out ⇒ finished 0x05 0x04 0x80 0 ∷ [])
          ++ opens ++ asks_read 17 0 1 ++ (go ⇒ read 4928 ∷ []) ++ stored (gives 1) (finished 0x00 0x00 0x00 0)
          ++ (cuts old ∷ []) ++ found_b 2 (17 ∷ []) (2 ∷ []) [] ++ finds 4928 1 0x80;
      part = bytes 1;
      place = sector 4928;
      candidates = bytes 1 ∷ [];
    }

pub a_place_is_stored_by_the_next_command : (given : Drive) → Happens given stored_next
unfolding computed
a_place_is_stored_by_the_next_command given = happens given stored_next refl

-- The store is answered 3. Under the latch no command for a block is good while the place is unstored: a good read of any block fails
-- with 01, a write with 11; FFFFFE is good. The next start finds the old table, and the old bytes.
abbrev pub unstored_under_the_latch : Run
unstored_under_the_latch =
    record {
      sectors = disk [] [];
      exchanges =
          found [] [] ++ write_moves 17 store ++ (unsettled ⇒ finished 0x15 0x04 0x80 0 ∷ [])
          ++ opens ++ asks_read 17 0 1 ++ (go ⇒ read 4928 ∷ gives 1 ⇒ finished 0x01 0x00 0x00 0 ∷ [])
          ++ opens ++ asks_read 18 0 1 ++ (go ⇒ read 18 ∷ garbles 9 ⇒ read 18 ∷ gives 7 ⇒ finished 0x09 0x00 0x00 0 ∷ [])
          ++ opens ++ asks_write 1 18 (bytes 2) ++ (go ⇒ finished 0x11 0x00 0x00 0 ∷ [])
          ++ opens ++ asks_read 0xFFFFFE 0 0 ++ (go ⇒ finished 0x00 0x00 0x00 0 ∷ cuts new ∷ [])
          ++ found [] [] ++ finds 17 7 0x80;
      part = bytes 7;
      place = sector 17;
      candidates = bytes 7 ∷ [];
    }

pub under_the_latch_an_unstored_place_fails_every_command : (given : Drive) → Happens given unstored_under_the_latch
unfolding computed
under_the_latch_an_unstored_place_fails_every_command given = happens given unstored_under_the_latch refl

-- ONE SPARE FOR TWO BLOCKS, one after the other. Block 17 moves to spare 0, and its store times out; the next start finds the old table,
-- block 17 at its home, and block 18 moves to spare 0. At no moment have both the same sector.
abbrev one_spare_twice : Run
one_spare_twice =
    record {
      sectors = disk [] [];
      exchanges =
          found [] [] ++ write_moves 17 store ++ (times_out ⇒ finished 0x05 0x04 0x80 0 ∷ cuts old ∷ [])
          ++ found [] [] ++ write_moves 18 store ++ (done ⇒ finished 0x04 0x04 0x80 0 ∷ []) ++ finds 17 7 0x00;
      part = bytes 7;
      place = sector 17;
      candidates = bytes 7 ∷ [];
    }

pub one_spare_serves_two_blocks_one_after_the_other : (given : Drive) → Happens given one_spare_twice × ((history given one_spare_twice).place (record { 0 = 18 }) ≡ sector 4928)
unfolding computed
one_spare_serves_two_blocks_one_after_the_other given = (happens given one_spare_twice refl, refl)
