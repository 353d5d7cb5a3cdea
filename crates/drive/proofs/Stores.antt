-- THE STORE BEFORE A COMMAND FINISHES, computed. Document 02, request 7.
use mathlib.Core.Path.{◌≡◌, refl}
use mathlib.Core.Bool.{Bool, true, false}
use mathlib.Core.List.{List, [], ◌∷◌, ◌++◌}
use Prim.Native.Nat.{ℕ}
use lib.ListN.{replicate}
use Rattle.lists.specs.Lists.{dead}
use Rattle.image.specs.FormA.{form_a}
use Rattle.drive.specs.declared.Access.TheVariants as access
use Rattle.drive.specs.declared.Answer.TheVariants as answer
use Rattle.drive.specs.declared.Drive.{Drive}
use Rattle.drive.specs.declared.Ending.{Ending}
use Rattle.drive.specs.declared.Ending.TheVariants as ending
use Rattle.drive.specs.declared.Marks.{Marks}
use Rattle.drive.specs.declared.Phase.{Phase}
use Rattle.drive.specs.declared.Phase.TheVariants as phase
use Rattle.drive.specs.declared.Seen.{Seen}
use Rattle.drive.specs.Results.{Out, with_marks, clean}
use Rattle.drive.specs.Calls.{Call, raise, lower, feed, surface, reset}
use Rattle.drive.specs.Surface.{new}
use Rattle.drive.proofs.Computing.{computed}
use Rattle.drive.proofs.Codes.{table, with}
use Rattle.drive.proofs.Examples.{run, asks, good, timeout, Ended}
use Rattle.drive.proofs.Transcripts.{◌⇒◌, cuts, Run, Happens, happens, bytes, disk, sector, go, gives, done, times_out, unsettled, found, found_b, opens, stored, asks_read, asks_write, asks_table, asks_health, health_block, eleven_timeouts, wait, read, write, store, finished}

-- WHICH COMMANDS STORE. A bad entry is unstored each time, since the store of the read that made it timed out.

-- Commands for no block, a number of no block, too much data for FFFFFE, a wrong handshake byte, a reset and every raise store
-- nothing. Then a first good read does, and is good.
abbrev not_stored : Run
not_stored =
    record {
      sectors = disk [] [];
      exchanges =
          found [] [] ++ eleven_timeouts times_out (finished 0x05 0x00 0x80 0)
          ++ opens ++ asks_read 0xFFFFFE 0 0 ++ (go ⇒ finished 0x00 0x00 0x00 0 ∷ [])
          ++ opens ++ asks_table 0x00
          ++ opens ++ asks_read 9728 0 0 ++ (go ⇒ finished 0x01 0x00 0x40 0 ∷ [])
          ++ opens ++ asks_write 1 0xFFFFFE (replicate 533 3) ++ (go ⇒ finished 0x41 0x00 0x00 0 ∷ [])
          ++ opens ++ asks_write 1 17 (bytes 1) ++ (lower 0xAA ⇒ finished 0x80 0x00 0x00 0 ∷ reset ⇒ wait ∷ [])
          ++ opens ++ asks_health 0x80
          ++ opens ++ asks_read 18 5 0 ++ (go ⇒ read 18 ∷ []) ++ stored (gives 7) (finished 0x00 0x00 0x00 0)
          ++ opens ++ asks_health 0x00;
      part = health_block 32 1 0 0;
      place = sector 17;
      candidates = bytes 7 ∷ [];
    }

pub only_a_command_for_a_block_stores : (given : Drive) → Happens given not_stored
unfolding computed
only_a_command_for_a_block_stores given = happens given not_stored refl

-- Too much data for a block: it fails with its own bit, and its store that timed out adds a timeout. With nothing unstored it stores
-- nothing.
abbrev overrun_stores : Run
overrun_stores =
    record {
      sectors = disk [] [];
      exchanges =
          found [] [] ++ eleven_timeouts times_out (finished 0x05 0x00 0x80 0)
          ++ opens ++ asks_write 1 17 (replicate 533 3) ++ (go ⇒ store ∷ times_out ⇒ finished 0x45 0x00 0x00 0 ∷ [])
          ++ opens ++ asks_write 2 17 (replicate 533 3) ++ stored go (finished 0x41 0x00 0x00 0)
          ++ opens ++ asks_write 1 17 (replicate 533 3) ++ (go ⇒ finished 0x41 0x00 0x00 0 ∷ []);
      part = bytes 3;
      place = sector 17;
      candidates = bytes 7 ∷ [];
    }

pub too_much_data_for_a_block_stores : (given : Drive) → Happens given overrun_stores
unfolding computed
too_much_data_for_a_block_stores given = happens given overrun_stores refl

-- The same, where its store is answered 3: bits 6, 4 and 0, and the latch.
abbrev overrun_unsettled : Run
overrun_unsettled =
    record {
      sectors = disk [] [];
      exchanges =
          found [] [] ++ eleven_timeouts times_out (finished 0x05 0x00 0x80 0)
          ++ opens ++ asks_write 1 17 (replicate 533 3) ++ (go ⇒ store ∷ unsettled ⇒ finished 0x51 0x00 0x00 0 ∷ [])
          ++ opens ++ asks_write 1 17 (replicate 533 3) ++ (go ⇒ finished 0x41 0x00 0x00 0 ∷ [])
          ++ opens ++ asks_write 1 17 (bytes 1) ++ (go ⇒ finished 0x11 0x00 0x00 0 ∷ []);
      part = bytes 1;
      place = sector 17;
      candidates = bytes 7 ∷ [];
    }

pub answer_3_to_the_store_of_too_much_data_latches : (given : Drive) → Happens given overrun_unsettled
unfolding computed
answer_3_to_the_store_of_too_much_data_latches given = happens given overrun_unsettled refl

-- A plain write stores what is unstored, and so does one that fails for want of a spare.
abbrev writes_store : Run
writes_store =
    record {
      sectors = disk (replicate 32 dead) [];
      exchanges =
          found (replicate 32 dead) []
          ++ opens ++ asks_read 18 0 1 ++ (go ⇒ read 18 ∷ []) ++ replicate 10 (times_out ⇒ read 18) ++ (times_out ⇒ store ∷ times_out ⇒ finished 0x05 0x00 0x80 0 ∷ [])
          ++ opens ++ asks_write 1 17 (bytes 1) ++ (go ⇒ write 17 ∷ times_out ⇒ store ∷ times_out ⇒ finished 0x05 0x40 0x00 0 ∷ [])
          ++ opens ++ asks_write 1 17 (bytes 2) ++ (go ⇒ write 17 ∷ done ⇒ store ∷ times_out ⇒ finished 0x05 0x00 0x00 0 ∷ [])
          ++ opens ++ asks_write 2 17 (bytes 3) ++ (go ⇒ write 17 ∷ done ⇒ read 17 ∷ []) ++ stored (gives 3) (finished 0x00 0x00 0x00 0);
      part = bytes 3;
      place = sector 17;
      candidates = bytes 3 ∷ [];
    }

pub a_write_whose_store_is_not_done_fails : (given : Drive) → Happens given writes_store
unfolding computed
a_write_whose_store_is_not_done_fails given = happens given writes_store refl

-- THE LATCH

-- A good read whose store is answered 3 fails with bits 4 and 0. Then a write is refused by the latch, and a good read is good, since
-- only a bad entry is unstored.
abbrev unsettled_store : Run
unsettled_store =
    record {
      sectors = disk [] [];
      exchanges =
          found [] [] ++ eleven_timeouts times_out (finished 0x05 0x00 0x80 0)
          ++ opens ++ asks_read 18 0 1 ++ (go ⇒ read 18 ∷ gives 7 ⇒ store ∷ unsettled ⇒ finished 0x11 0x00 0x00 0 ∷ [])
          ++ opens ++ asks_write 1 18 (bytes 1) ++ (go ⇒ finished 0x11 0x00 0x00 0 ∷ [])
          ++ opens ++ asks_read 18 0 1 ++ (go ⇒ read 18 ∷ gives 7 ⇒ finished 0x00 0x00 0x00 0 ∷ [])
          ++ opens ++ asks_health 0x00;
      part = health_block 32 1 1 1;
      place = sector 17;
      candidates = bytes 7 ∷ [];
    }

pub under_the_latch_a_bad_entry_may_stay_unstored : (given : Drive) → Happens given unsettled_store
unfolding computed
under_the_latch_a_bad_entry_may_stay_unstored given = happens given unsettled_store refl

-- So it is with a dead spare.
abbrev dead_under_the_latch : Run
dead_under_the_latch =
    record {
      sectors = disk [] [];
      exchanges =
          found [] [] ++ opens ++ asks_write 1 17 (bytes 1) ++ (go ⇒ write 17 ∷ times_out ⇒ write 4928 ∷ unsettled ⇒ finished 0x15 0x00 0x80 0 ∷ [])
          ++ opens ++ asks_read 17 0 1 ++ (go ⇒ read 17 ∷ gives 7 ⇒ finished 0x00 0x00 0x00 0 ∷ [])
          ++ opens ++ asks_table 0x00;
      part = form_a (dead ∷ []) [];
      place = sector 17;
      candidates = bytes 7 ∷ [];
    }

pub under_the_latch_a_dead_spare_may_stay_unstored : (given : Drive) → Happens given dead_under_the_latch
unfolding computed
under_the_latch_a_dead_spare_may_stay_unstored given = happens given dead_under_the_latch refl

-- THE RUN NUMBER over stores that fail: the third is done, and the next start finds its number. The fate of a start with nothing
-- pending is of no account.
abbrev third_store : Run
third_store =
    record {
      sectors = disk [] [];
      exchanges =
          found [] [] ++ eleven_timeouts times_out (finished 0x05 0x00 0x80 0)
          ++ opens ++ asks_read 17 0 1 ++ (go ⇒ read 17 ∷ gives 7 ⇒ store ∷ times_out ⇒ finished 0x05 0x00 0x00 0 ∷ [])
          ++ opens ++ asks_read 17 0 1 ++ (go ⇒ read 17 ∷ []) ++ stored (gives 7) (finished 0x00 0x00 0x00 0)
          ++ (cuts new ∷ []) ++ found_b 3 [] [] (17 ∷ []) ++ opens ++ asks_table 0x80;
      part = form_a [] (17 ∷ []);
      place = sector 17;
      candidates = bytes 7 ∷ [];
    }

pub a_store_carries_the_number_of_those_before_it : (given : Drive) → Happens given third_store
unfolding computed
a_store_carries_the_number_of_those_before_it given = happens given third_store refl

-- COMPUTED FROM A RECORD, with block 17 at spare 0

-- Returns one with these marks, in this phase.
abbrev marked : Bool → Bool → Bool → Phase → Drive
marked changed moved latch p =
    let d = with (table (17 ∷ []) 1 [] 0) true 6 533 p in
    record { table = d.table; causes = d.causes; state = with_marks d.state (record { known = true; changed = changed; moved = moved; latch = latch; fresh = false }) p }

abbrev idle : Bool → Bool → Bool → Drive
idle changed moved latch = marked changed moved latch phase.Idle

abbrev after : Drive → List Call → Out
after d cs = run d (replicate 536 0) cs

-- Reads block 0, good at once; writes a byte to it; and reads FFFFFE.
abbrev reads_good : List Call
reads_good = asks 0 1 (good ∷ [])

abbrev writes_one : ℕ → List Call
writes_one op = raise ∷ lower 0x55 ∷ feed (op ∷ 0 ∷ 0 ∷ 0 ∷ []) ∷ raise ∷ lower 0x55 ∷ feed (9 ∷ []) ∷ raise ∷ lower 0x55 ∷ []

abbrev reads_buffer : List Call
reads_buffer = raise ∷ lower 0x55 ∷ feed (0 ∷ 255 ∷ 255 ∷ 254 ∷ 0 ∷ 0 ∷ []) ∷ raise ∷ lower 0x55 ∷ []

abbrev Stores : Out → Type 0
Stores x = x.step.answer ≡ answer.Store

pub record Storing : Type 0 where
  -- With no latch an unstored change is stored, a place or not; with nothing unstored nothing is.
  pub nothing_unstored : Ended (after (idle false false false) reads_good) (0x00 ∷ 0 ∷ 0 ∷ 0 ∷ [])
  pub an_entry : Stores (after (idle true false false) reads_good)
  pub a_place : Stores (after (idle true true false) reads_good)
  -- Under the latch nothing is, and a command for a block fails by bit 0 while a place is unstored.
  pub an_entry_under_the_latch : Ended (after (idle true false true) reads_good) (0x00 ∷ 0 ∷ 0 ∷ 0 ∷ [])
  pub a_place_under_the_latch : Ended (after (idle true true true) reads_good) (0x01 ∷ 0 ∷ 0 ∷ 0 ∷ [])
  pub a_timeout_too : Ended (after (idle true true true) (asks 0 1 (timeout ∷ good ∷ []))) (0x05 ∷ 0 ∷ 0 ∷ 0 ∷ [])
  pub a_write_too : Ended (after (idle true true true) (writes_one 1)) (0x11 ∷ 0 ∷ 0 ∷ 0 ∷ [])
  pub no_block : Ended (after (idle true true true) reads_buffer) (0x00 ∷ 0 ∷ 0 ∷ 0 ∷ [])
  -- A raise offers 01, and a reset keeps both marks.
  pub a_raise : (after (idle true true false) (raise ∷ [])).step.drive.state.marks ≡ (idle true true false).state.marks
  pub a_reset : (after (idle true true true) (reset ∷ reads_good)).step.drive.state.marks ≡ (idle true true true).state.marks

pub storing : Storing
unfolding computed
storing =
    record {
      nothing_unstored = (refl, refl);
      an_entry = refl;
      a_place = refl;
      an_entry_under_the_latch = (refl, refl);
      a_place_under_the_latch = (refl, refl);
      a_timeout_too = (refl, refl);
      a_write_too = (refl, refl);
      no_block = (refl, refl);
      a_raise = refl;
      a_reset = refl;
    }

-- THE STORE'S ANSWER, to a command that ended so and met this

abbrev closed : Ending → Seen → ℕ → Out
closed e s a = after (marked true true false (phase.Awaiting (access.Store (record { ending = e; seen = s })))) (surface a [] ∷ [])

-- Says what status it gives if the store is done, times out, and does not settle.
abbrev Closes : Ending → Seen → List ℕ → List ℕ → List ℕ → Type 0
Closes e s stored late still = Ended (closed e s 0) stored × Ended (closed e s 2) late × Ended (closed e s 3) still

-- Holds an E of 9, with a CRC error met.
abbrev nine : Seen
nine = record { errors = 9; crc = true; timeout = false }

abbrev marks_after : ℕ → Marks
marks_after a = (closed ending.Moved clean a).step.drive.state.marks

pub record Answered : Type 0 where
  pub good : Closes ending.Good clean (0x00 ∷ 0 ∷ 0 ∷ 0 ∷ []) (0x05 ∷ 0 ∷ 0 ∷ 0 ∷ []) (0x11 ∷ 0 ∷ 0 ∷ 0 ∷ [])
  -- Status 2 bit 2 is shown whether or not the store was done.
  pub moved : Closes ending.Moved nine (0x08 ∷ 4 ∷ 0 ∷ 9 ∷ []) (0x0D ∷ 4 ∷ 0 ∷ 9 ∷ []) (0x19 ∷ 4 ∷ 0 ∷ 9 ∷ [])
  pub failed : Closes ending.Failed nine (0x09 ∷ 0 ∷ 0 ∷ 9 ∷ []) (0x0D ∷ 0 ∷ 0 ∷ 9 ∷ []) (0x19 ∷ 0 ∷ 0 ∷ 9 ∷ [])
  pub overrun : Closes ending.Overrun clean (0x41 ∷ 0 ∷ 0 ∷ 0 ∷ []) (0x45 ∷ 0 ∷ 0 ∷ 0 ∷ []) (0x51 ∷ 0 ∷ 0 ∷ 0 ∷ [])
  pub bad_full : Closes ending.BadFull clean (0x01 ∷ 16 ∷ 0 ∷ 0 ∷ []) (0x05 ∷ 16 ∷ 0 ∷ 0 ∷ []) (0x11 ∷ 16 ∷ 0 ∷ 0 ∷ [])
  pub no_spare : Closes ending.NoSpare clean (0x01 ∷ 64 ∷ 0 ∷ 0 ∷ []) (0x05 ∷ 64 ∷ 0 ∷ 0 ∷ []) (0x11 ∷ 64 ∷ 0 ∷ 0 ∷ [])
  -- Only a done store clears the marks, and answer 3 latches. It is finished, and the next finish is not the first.
  pub marks_done : marks_after 0 ≡ record { known = true; changed = false; moved = false; latch = false; fresh = false }
  pub marks_late : marks_after 2 ≡ record { known = true; changed = true; moved = true; latch = false; fresh = false }
  pub marks_still : marks_after 3 ≡ record { known = true; changed = true; moved = true; latch = true; fresh = false }
  -- The table and the run number are as they were.
  pub drive : (closed ending.Moved clean 2).step.drive ≡ idle true true false

pub answered_so : Answered
unfolding computed
answered_so =
    record {
      good = ((refl, refl), (refl, refl), (refl, refl));
      moved = ((refl, refl), (refl, refl), (refl, refl));
      failed = ((refl, refl), (refl, refl), (refl, refl));
      overrun = ((refl, refl), (refl, refl), (refl, refl));
      bad_full = ((refl, refl), (refl, refl), (refl, refl));
      no_spare = ((refl, refl), (refl, refl), (refl, refl));
      marks_done = refl;
      marks_late = refl;
      marks_still = refl;
      drive = refl;
    }
