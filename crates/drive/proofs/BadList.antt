-- The bad list and the store, computed.
use Rattle.std.specs.Prelude.{None, Some}
use mathlib.Core.Path.{◌≡◌, refl}
use mathlib.Core.Bool.{Bool, true, false}
use mathlib.Core.List.{List, [], ◌∷◌, ◌++◌}
use Prim.Native.Nat.{ℕ, zero, suc}
use Rattle.image.specs.FormA.{form_a}
use Rattle.drive.specs.declared.Cause.TheVariants as cause
use Rattle.drive.specs.declared.Drive.{Drive}
use Rattle.drive.specs.declared.State.{State}
use Rattle.drive.specs.declared.Retry.{Retry}
use Rattle.drive.specs.declared.Seen.{Seen}
use Rattle.drive.specs.declared.Phase.TheVariants as phase
use Rattle.drive.specs.declared.Access.TheVariants as access
use Rattle.drive.specs.declared.Answer.TheVariants as answer
use Rattle.drive.specs.declared.Ending.{Ending}
use Rattle.drive.specs.declared.Ending.TheVariants as ending
use Rattle.drive.specs.declared.Change.{Change}
use Rattle.drive.specs.declared.Change.TheVariants as change
use Rattle.drive.specs.declared.Part.TheVariants as part
use Rattle.drive.specs.declared.Turn.{Turn}
use Rattle.drive.specs.Results.{with_marks, clean, finish}
use Rattle.drive.specs.Sparing.{verified}
use Rattle.drive.specs.Access.{lost}
use Rattle.drive.specs.Calls.{lower, reset}
use Rattle.drive.proofs.Computing.{computed}
use Rattle.drive.proofs.Transcripts.{◌⇒◌, key, Run, Happens, happens, bytes, disk, sector, go, gives, times_out, unsettled, found, opens, stored, asks_read, asks_write, asks_table, ten_timeouts, eleven_timeouts, wait, read, store, finished}
use Rattle.drive.proofs.Codes.{table, with, trial_of}

-- The block is entered in the bad list. A store that times out is made again at the end of the next command for a block, and once
-- more if that times out; one that is done is not. A raise, a wrong handshake byte and a reset make none.
abbrev stored_once : Run
stored_once =
    record {
      sectors = disk [] [];
      exchanges =
          found [] [] ++ eleven_timeouts times_out (finished 0x05 0x00 0x80 0) ++ opens ++ (lower 0x00 ⇒ finished 0x80 0x00 0x00 0 ∷ [])
          ++ opens ++ asks_read 17 0 1 ++ (go ⇒ read 17 ∷ gives 7 ⇒ store ∷ times_out ⇒ finished 0x05 0x00 0x00 0 ∷ [])
          ++ opens ++ asks_read 18 0 1 ++ (go ⇒ read 18 ∷ []) ++ stored (gives 7) (finished 0x00 0x00 0x00 0)
          ++ opens ++ asks_read 18 0 1 ++ (go ⇒ read 18 ∷ gives 7 ⇒ finished 0x00 0x00 0x00 0 ∷ reset ⇒ wait ∷ []) ++ opens ++ asks_table 0x80;
      part = form_a [] (17 ∷ []);
      place = sector 17;
      candidates = bytes 7 ∷ [];
    }

pub a_done_store_is_not_made_again : (old : Drive) → Happens old stored_once
unfolding computed
a_done_store_is_not_made_again old = happens old stored_once refl

-- A listed block is not listed again, and marks nothing.
abbrev listed_already : Run
listed_already =
    record {
      sectors = disk [] (17 ∷ []);
      exchanges = found [] (17 ∷ []) ++ ten_timeouts ++ (times_out ⇒ finished 0x05 0x00 0x80 0 ∷ []) ++ opens ++ asks_table 0x00;
      part = form_a [] (17 ∷ []);
      place = sector 17;
      candidates = bytes 7 ∷ [];
    }

pub a_listed_bad_block_is_not_entered_again : (old : Drive) → Happens old listed_already
unfolding computed
a_listed_bad_block_is_not_entered_again old = happens old listed_already refl

-- Answer 3 to the store latches: a write is refused by the latch, and nothing is stored. A good read is good, since no block's
-- place is unstored.
abbrev store_unsettled : Run
store_unsettled =
    record {
      sectors = disk [] [];
      exchanges =
          found [] [] ++ eleven_timeouts unsettled (finished 0x15 0x00 0x80 0)
          ++ opens ++ asks_write 1 18 (bytes 1) ++ (go ⇒ finished 0x11 0x00 0x00 0 ∷ [])
          ++ opens ++ asks_read 17 0 1 ++ (go ⇒ read 17 ∷ gives 7 ⇒ finished 0x00 0x00 0x00 0 ∷ []) ++ opens ++ asks_table 0x00;
      part = form_a [] (17 ∷ []);
      place = sector 17;
      candidates = bytes 7 ∷ [];
    }

pub answer_3_to_a_store_latches : (old : Drive) → Happens old store_unsettled
unfolding computed
answer_3_to_a_store_latches old = happens old store_unsettled refl

-- THE BAD LIST FULL, computed without the calls: a hundred entries are tested at each of them

-- Returns k, k + 1, and so on, n of them.
abbrev up_from : ℕ → ℕ → List ℕ
up_from k zero = []
up_from k (suc n) = k ∷ up_from (suc k) n

-- Returns an idle state with the latch set, or not.
abbrev marked : Bool → State → State
marked latch l = with_marks l (record { known = true; changed = false; moved = false; latch = latch; fresh = false }) phase.Idle

-- Holds a read of block 17 of which no access was good.
abbrev lost_read : Retry
lost_read =
    record { block = key; sector = record { 0 = 17 }; first = false; left = 0; spent = 90; threshold = 1; good = false; seen = record { errors = 0; crc = false; timeout = true } }

-- Ends it, with these bad blocks listed, and the latch set or not.
abbrev lost_with : Bool → List ℕ → ℕ → Turn
lost_with latch bads m = let d = with (table [] 0 bads m) true 6 0 phase.Idle in lost (marked latch d.state) d.table lost_read part.Kept

-- Says what it does to the table, and whether that is marked, and whether there is a latch.
abbrev Marks : Turn → Change → Bool → Bool → Type 0
Marks x c mark latch = (x.change ≡ c) × (x.state.marks.changed ≡ mark) × (x.state.marks.latch ≡ latch)

-- Says that it is finished with this status 2, or that the store is asked for, with this ending to tell.
abbrev Tells : Turn → ℕ → ℕ → Type 0
Tells x one two = (x.answer ≡ answer.Finished) × (x.leaves.status ≡ Some (record { 0 = one; 1 = two; 2 = 0x00; 3 = 0 }))

abbrev Stores : Turn → Ending → Seen → Type 0
Stores x e s = (x.answer ≡ answer.Store) × (x.leaves.status ≡ None) × (x.state.phase ≡ phase.Awaiting (access.Store (record { ending = e; seen = s })))

pub record Full : Type 0 where
  pub entered_at_99 : Marks (lost_with false (up_from 100 99) 99) (change.Enter key) true false × Stores (lost_with false (up_from 100 99) 99) ending.Failed lost_read.seen
  pub full_at_100 : Marks (lost_with false (up_from 100 100) 100) change.Keep false false × Tells (lost_with false (up_from 100 100) 100) 0x05 0x10
  pub listed_at_100 : Marks (lost_with false (up_from 17 100) 100) change.Keep false false × Tells (lost_with false (up_from 17 100) 100) 0x05 0x00
  -- Enters and marks under the latch all the same, and stores nothing.
  pub entered_under_the_latch : Marks (lost_with true (up_from 100 99) 99) (change.Enter key) true true × Tells (lost_with true (up_from 100 99) 99) 0x05 0x00

pub full : Full
unfolding computed
full =
    record {
      entered_at_99 = ((refl, refl, refl), (refl, refl, refl));
      full_at_100 = ((refl, refl, refl), (refl, refl));
      listed_at_100 = ((refl, refl, refl), (refl, refl));
      entered_under_the_latch = ((refl, refl, refl), (refl, refl));
    }

-- A TRIAL THAT PASSED, computed without the calls

-- Ends the trial of block 17, at its sector or at spare 0, with this bad list.
abbrev passed_with : Bool → List ℕ → ℕ → Turn
passed_with spare bads m = let d = with (table [] 0 bads m) true 6 0 phase.Idle in verified d.state d.table (trial_of 17 17 spare 100 30)

-- Says whether some block's place is unstored then.
abbrev Unplaced : Turn → Bool → Type 0
Unplaced x mark = x.state.marks.moved ≡ mark

pub record Passed : Type 0 where
  pub listed : ((passed_with false (5 ∷ 17 ∷ []) 2).change ≡ change.Remove key) × Unplaced (passed_with false (5 ∷ 17 ∷ []) 2) false × Stores (passed_with false (5 ∷ 17 ∷ []) 2) ending.Good clean
  pub not_listed : ((passed_with false (5 ∷ []) 1).change ≡ change.Keep) × Tells (passed_with false (5 ∷ []) 1) 0x00 0x00
  pub moved : ((passed_with true (5 ∷ 17 ∷ []) 2).change ≡ change.Move key cause.Unknown cause.Unknown) × Unplaced (passed_with true (5 ∷ 17 ∷ []) 2) true × Stores (passed_with true (5 ∷ 17 ∷ []) 2) ending.Moved clean

pub passed : Passed
unfolding computed
passed = record { listed = (refl, refl, (refl, refl, refl)); not_listed = (refl, (refl, refl)); moved = (refl, refl, (refl, refl, refl)) }

-- A table that is not known is not stored, though it is marked changed; no call returns such a record.
abbrev unknown : State
unknown = with_marks (with (table [] 0 [] 0) false 0 0 phase.Idle).state (record { known = false; changed = true; moved = true; latch = false; fresh = false }) phase.Idle

pub a_table_that_is_not_known_is_not_stored : Tells (finish unknown change.Keep ending.Overrun clean part.Kept) 0x41 0x00
unfolding computed
a_table_that_is_not_known_is_not_stored = (refl, refl)
