-- POWER CUTS, computed: at a write, at a store and with nothing pending, and the next start. Document 02, request 7. Cuts at each
-- access of a move are in `MoveCuts`.
use mathlib.Core.Path.{◌≡◌, refl}
use mathlib.Core.Bool.{true, false}
use mathlib.Core.List.{List, [], ◌∷◌, ◌++◌}
use Prim.Native.Nat.{ℕ}
use lib.ListN.{replicate}
use Rattle.geometry.specs.Geometry.{table_sector}
use Rattle.image.specs.FormA.{form_a}
use Rattle.image.specs.FormB.{form_b}
use Rattle.drive.specs.declared.Answer.TheVariants as answer
use Rattle.drive.specs.declared.Drive.{Drive}
use Rattle.drive.specs.Calls.{raise, feed, surface, started}
use Rattle.drive.specs.Cuts.{Cut, world_then, history_at, history_then}
use Rattle.drive.specs.History.{held, unreadable}
use Rattle.drive.specs.Run.{power}
use Rattle.drive.specs.Surface.{Fate, old, new, spoiled}
use Rattle.drive.specs.Views.{Bytes, nowhere}
use Rattle.drive.proofs.Computing.{computed}
use Rattle.drive.proofs.Statements.{fails_after}
use Rattle.drive.proofs.Transcripts.{Exchange, ◌⇒◌, ◌⇏◌, cuts, Run, Happens, happens, bytes, disk, sector, go, gives, done, garbles, times_out, found, found_b, opens, stored, command, asks_read, asks_write, asks_table, ten_timeouts, wait, offer, read, write, store, finished, refused}

-- AFTER A START

-- Reads the block after a start, at its home, and it gives this byte.
abbrev pub finds_at_home : ℕ → List Exchange
finds_at_home v = found [] [] ++ opens ++ asks_read 17 0 1 ++ (go ⇒ read 17 ∷ gives v ⇒ finished 0x00 0x00 0x80 0 ∷ [])

-- Makes a read of block 17 that fails by eleven timeouts, after a start, and stores that its block is bad.
abbrev pub finds_nothing : List Exchange
finds_nothing = found [] [] ++ ten_timeouts ++ stored times_out (finished 0x05 0x00 0x80 0)

-- THE ACCESSES OF A WRITE

-- Asks for the write of ones by a write/verify.
abbrev pub to_the_write : List Exchange
to_the_write = opens ++ asks_write 2 17 (bytes 1) ++ (go ⇒ write 17 ∷ [])

-- Awaits the write's answer.
abbrev pub write_awaited : Run
write_awaited = record { sectors = disk [] []; exchanges = found [] [] ++ to_the_write; part = bytes 1; place = sector 17; candidates = bytes 7 ∷ [] }

pub the_write_is_awaited : (given : Drive) → Happens given write_awaited
unfolding computed
the_write_is_awaited given = happens given write_awaited refl

-- Cuts the write there, with what is pending left so.
abbrev pub write_cut : List Exchange → Fate → List Exchange
write_cut xs f = found [] [] ++ xs ++ (cuts f ∷ [])

-- Finds this byte at home afterwards.
abbrev pub cut_then_read : List Exchange → Fate → ℕ → Run
cut_then_read xs f v = record { sectors = disk [] []; exchanges = write_cut xs f ++ finds_at_home v; part = bytes v; place = sector 17; candidates = bytes v ∷ [] }

pub after_a_cut_write_the_old_or_the_new_bytes_are_read : (given : Drive) → Happens given (cut_then_read to_the_write old 7) × Happens given (cut_then_read to_the_write new 1)
unfolding computed
after_a_cut_write_the_old_or_the_new_bytes_are_read given = (happens given (cut_then_read to_the_write old 7) refl, happens given (cut_then_read to_the_write new 1) refl)

-- Until a read is good both are candidates, whatever the cut left; a second write cut off adds its bytes.
abbrev pub two_cuts : Run
two_cuts =
    record {
      sectors = disk [] [];
      exchanges =
          write_cut to_the_write spoiled ++ finds_nothing
          ++ opens ++ asks_write 1 18 (bytes 3) ++ (go ⇒ write 18 ∷ cuts new ∷ []) ++ found_b 1 [] [] (17 ∷ [])
          ++ opens ++ asks_write 1 17 (2 ∷ 2 ∷ []) ++ (go ⇒ write 17 ∷ cuts old ∷ []) ++ found_b 1 [] [] (17 ∷ []);
      part = bytes 0;
      place = sector 17;
      candidates = (2 ∷ 2 ∷ replicate 530 0) ∷ bytes 1 ∷ bytes 7 ∷ [];
    }

pub the_bytes_of_a_cut_write_are_added : (given : Drive) → Happens given two_cuts
unfolding computed
the_bytes_of_a_cut_write_are_added given = happens given two_cuts refl

-- A write that was reported good before the start is over: its bytes are the one candidate, and a good read gives them. The table read
-- after the next start leaves them.
abbrev cut_after_the_finish : Run
cut_after_the_finish =
    record {
      sectors = disk [] [];
      exchanges =
          found [] [] ++ opens ++ asks_write 1 17 (bytes 1) ++ (go ⇒ write 17 ∷ done ⇒ finished 0x00 0x00 0x80 0 ∷ cuts spoiled ∷ finds_at_home 1)
          ++ (cuts new ∷ []) ++ found [] [];
      part = bytes 0;
      place = sector 17;
      candidates = bytes 1 ∷ [];
    }

pub a_start_leaves_what_was_written : (given : Drive) → Happens given cut_after_the_finish
unfolding computed
a_start_leaves_what_was_written given = happens given cut_after_the_finish refl

-- NOTHING PENDING

-- Cuts at the start's own reads, in idle, at an offer, among command bytes, among data and at offer 06. The bytes fed are no candidate.
abbrev calm_cuts : Run
calm_cuts =
    record {
      sectors = disk [] [];
      exchanges =
          (cuts spoiled ∷ times_out ⇒ read 4960 ∷ cuts new ∷ []) ++ found [] [] ++ (cuts spoiled ∷ []) ++ found [] [] ++ opens ++ (cuts spoiled ∷ []) ++ found [] []
          ++ opens ++ (go ⇒ wait ∷ feed (command 1 17 []) ⇒ wait ∷ cuts new ∷ []) ++ found [] []
          ++ opens ++ (go ⇒ wait ∷ feed (command 1 17 []) ⇒ wait ∷ raise ⇒ offer 0x03 ∷ go ⇒ wait ∷ feed (bytes 1) ⇒ wait ∷ cuts new ∷ []) ++ found [] []
          ++ opens ++ asks_write 1 17 (bytes 1) ++ (cuts new ∷ []) ++ found [] [];
      part = bytes 0;
      place = sector 17;
      candidates = bytes 7 ∷ [];
    }

pub with_nothing_pending_a_cut_changes_nothing : (given : Drive) → Happens given calm_cuts
unfolding computed
with_nothing_pending_a_cut_changes_nothing given = happens given calm_cuts refl

-- A start with a buffer of 535 bytes is refused: the write goes on, and is made. One during the next write adds nothing.
abbrev refused_start : Exchange
refused_start = record { moment = power started (replicate 535 1) spoiled; says = refused 2 }

abbrev pub start_refused : Run
start_refused =
    record {
      sectors = disk [] [];
      exchanges =
          found [] [] ++ opens ++ asks_write 1 17 (bytes 1) ++ (go ⇒ write 17 ∷ refused_start ∷ done ⇒ finished 0x00 0x00 0x80 0 ∷ refused_start ∷ [])
          ++ opens ++ asks_read 17 0 1 ++ (go ⇒ read 17 ∷ gives 1 ⇒ finished 0x00 0x00 0x00 0 ∷ [])
          ++ opens ++ asks_write 1 17 (bytes 2) ++ (go ⇒ write 17 ∷ refused_start ∷ []);
      part = bytes 2;
      place = sector 17;
      candidates = bytes 1 ∷ [];
    }

pub a_refused_start_changes_nothing : (given : Drive) → Happens given start_refused
unfolding computed
a_refused_start_changes_nothing given = happens given start_refused refl

-- THE STORE of a read that failed: the block enters the bad list

-- Awaits the store's answer.
abbrev pub store_awaited : Run
store_awaited =
    record { sectors = disk [] []; exchanges = found [] [] ++ ten_timeouts ++ (times_out ⇒ store ∷ []); part = bytes 0; place = sector 17; candidates = bytes 7 ∷ [] }

pub the_store_is_awaited : (given : Drive) → Happens given store_awaited
unfolding computed
the_store_is_awaited given = happens given store_awaited refl

-- Cuts it with the table's sector left so.
abbrev store_cut : Fate → List Exchange
store_cut f = found [] [] ++ ten_timeouts ++ (times_out ⇒ store ∷ cuts f ∷ [])

-- Finds this table afterwards, and reads it.
abbrev store_cut_then : Fate → List Exchange → Bytes → Run
store_cut_then f xs image = record { sectors = disk [] []; exchanges = store_cut f ++ xs ++ opens ++ asks_table 0x80; part = image; place = sector 17; candidates = bytes 7 ∷ [] }

pub a_cut_store_leaves_the_old_or_the_new_table :
    (given : Drive) → Happens given (store_cut_then old (found [] []) (form_a [] [])) × Happens given (store_cut_then new (found_b 1 [] [] (17 ∷ [])) (form_a [] (17 ∷ [])))
unfolding computed
a_cut_store_leaves_the_old_or_the_new_table given = (
  happens given (store_cut_then old (found [] []) (form_a [] [])) refl,
  happens given (store_cut_then new (found_b 1 [] [] (17 ∷ [])) (form_a [] (17 ∷ []))) refl,
)

-- The table's sector is unreadable: an image comes with answer 1 alone. Every read of a block fails with 01 08 and every write with
-- 41 08, after the next start too; FFFFFE is good. The sectors and the candidates of the history stay.
abbrev no_table_left : List Exchange
no_table_left =
    (surface 1 (form_a [] []) ⇒ read 4960 ∷ []) ++ replicate 8 (times_out ⇒ read 4960) ++ (garbles 9 ⇒ wait ∷ [])
    ++ opens ++ asks_read 17 2 2 ++ (go ⇒ finished 0x01 0x08 0x80 0 ∷ [])
    ++ opens ++ asks_write 1 17 (bytes 1) ++ (go ⇒ finished 0x41 0x08 0x00 0 ∷ [])
    ++ opens ++ asks_write 2 18 (bytes 2) ++ (go ⇒ finished 0x41 0x08 0x00 0 ∷ [])

abbrev pub table_unreadable : Run
table_unreadable =
    record {
      sectors = disk [] [];
      exchanges = store_cut spoiled ++ no_table_left ++ (cuts new ∷ []) ++ no_table_left ++ opens ++ asks_read 0xFFFFFE 0 0 ++ (go ⇒ finished 0x00 0x00 0x00 0 ∷ []);
      part = bytes 2;
      place = sector 17;
      candidates = bytes 7 ∷ [];
    }

pub with_the_table_unreadable_nothing_is_good : (given : Drive) → Happens given table_unreadable
unfolding computed
with_the_table_unreadable_nothing_is_good given = happens given table_unreadable refl

-- A done store may leave it unreadable too. Until the next start the drive goes on with its table.
abbrev done_store_unreadable : Run
done_store_unreadable =
    record {
      sectors = disk [] [];
      exchanges =
          found [] [] ++ ten_timeouts ++ (times_out ⇒ store ∷ done ⇏ finished 0x05 0x00 0x80 0 ∷ [])
          ++ opens ++ asks_read 18 0 1 ++ (go ⇒ read 18 ∷ gives 7 ⇒ finished 0x00 0x00 0x00 0 ∷ cuts old ∷ []) ++ no_table_left;
      part = bytes 2;
      place = sector 17;
      candidates = bytes 7 ∷ [];
    }

pub a_done_store_can_leave_the_table_unreadable : (given : Drive) → Happens given done_store_unreadable
unfolding computed
a_done_store_can_leave_the_table_unreadable given = happens given done_store_unreadable refl

-- A list may begin with it unreadable. Its ten reads fail, and so does every read and write of a block, after the next start too.
abbrev table_never_read : Run
table_never_read =
    record {
      sectors = λ s. unreadable;
      exchanges =
          replicate 9 (garbles 7 ⇒ read 4960) ++ (garbles 7 ⇒ wait ∷ []) ++ opens ++ asks_read 17 0 1 ++ (go ⇒ finished 0x01 0x08 0x80 0 ∷ [])
          ++ opens ++ asks_write 1 17 (bytes 1) ++ (go ⇒ finished 0x41 0x08 0x00 0 ∷ cuts old ∷ [])
          ++ replicate 9 (times_out ⇒ read 4960) ++ (times_out ⇒ wait ∷ []) ++ opens ++ asks_read 17 0 1 ++ (go ⇒ finished 0x01 0x08 0x80 0 ∷ []);
      part = bytes 0;
      place = nowhere;
      candidates = [];
    }

pub with_the_table_unreadable_at_first_nothing_is_good : (given : Drive) → Happens given table_never_read × (table_never_read.sectors table_sector ≡ unreadable)
unfolding computed
with_the_table_unreadable_at_first_nothing_is_good given = (happens given table_never_read refl, refl)

-- A start that reads no image leaves the sectors, and the first image may come after it.
abbrev first_image_later : Run
first_image_later =
    record {
      sectors = disk (17 ∷ []) [];
      exchanges =
          replicate 9 (times_out ⇒ read 4960) ++ (times_out ⇒ wait ∷ []) ++ opens ++ asks_read 17 0 1 ++ (go ⇒ finished 0x01 0x08 0x80 0 ∷ cuts old ∷ [])
          ++ found (17 ∷ []) [] ++ opens ++ asks_read 17 0 1 ++ (go ⇒ read 4928 ∷ gives 7 ⇒ finished 0x00 0x00 0x80 0 ∷ cuts old ∷ times_out ⇒ read 4960 ∷ []);
      part = bytes 0;
      place = sector 4928;
      candidates = bytes 7 ∷ [];
    }

pub the_first_image_of_all_gives_sectors_and_candidates : (given : Drive) → Happens given first_image_later
unfolding computed
the_first_image_of_all_gives_sectors_and_candidates given = happens given first_image_later refl

-- WHAT THE STATEMENTS OF THE DEMANDS SAY OF TWO CUTS: at a store, and at a write whose bytes are ones

abbrev at_the_store : Drive → Fate → Cut
at_the_store given f = fails_after given store_awaited (the_store_is_awaited given) f

abbrev at_the_write : Drive → Fate → Cut
at_the_write given f = fails_after given write_awaited (the_write_is_awaited given) f

-- Of these two cuts the premise of the unreadable table is met at the store alone, and there by one of the three.
pub a_cut_leaves_the_table_old_new_or_unreadable :
    (given : Drive) → ((world_then (at_the_store given spoiled)).sectors table_sector ≡ unreadable)
    × ((world_then (at_the_store given old)).sectors table_sector ≡ held (form_a [] []))
    × ((world_then (at_the_store given new)).sectors table_sector ≡ held (form_b 1 [] [] (17 ∷ [])))
    × ((world_then (at_the_write given spoiled)).sectors table_sector ≡ held (form_a [] []))
    × ((world_then (at_the_write given spoiled)).sectors (record { 0 = 17 }) ≡ unreadable)
unfolding computed
a_cut_leaves_the_table_old_new_or_unreadable given = (refl, refl, refl, refl, refl)

-- The start that comes next is accepted: its record and buffer are new, and its read of the table is awaited.
pub after_a_cut_a_start_is_under_way :
    (given : Drive) → ((world_then (at_the_write given old)).drive ≡ started) × ((world_then (at_the_write given old)).buffer ≡ replicate 536 0) × ((world_then (at_the_write given old)).asked ≡ answer.Read table_sector)
unfolding computed
after_a_cut_a_start_is_under_way given = (refl, refl, refl)

-- What the history has where the power fails, and after the start.
pub the_history_at_a_cut :
    (given : Drive) → ((history_at (at_the_write given old)).candidates (record { 0 = 17 }) ≡ bytes 7 ∷ [])
    × ((history_at (at_the_write given old)).acting ≡ true)
    × ((history_then (at_the_write given old)).candidates (record { 0 = 17 }) ≡ bytes 1 ∷ bytes 7 ∷ [])
    × ((history_then (at_the_write given old)).place (record { 0 = 17 }) ≡ sector 17)
    × ((history_then (at_the_write given old)).acting ≡ false)
unfolding computed
the_history_at_a_cut given = (refl, refl, refl, refl, refl)
