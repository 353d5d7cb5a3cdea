-- The latch, computed.
use mathlib.Core.Path.{refl}
use mathlib.Core.List.{[], ◌∷◌, ◌++◌}
use lib.ListN.{replicate}
use Rattle.lists.specs.Lists.{dead}
use Rattle.image.specs.FormA.{form_a}
use Rattle.drive.specs.declared.Drive.{Drive}
use Rattle.drive.specs.Calls.{reset}
use Rattle.drive.proofs.Computing.{computed}
use Rattle.drive.proofs.Transcripts.{◌⇒◌, Run, Happens, happens, bytes, disk, sector, go, gives, done, garbles, times_out, unsettled, found, opens, stored, asks_read, asks_write, asks_table, wait, read, write, finished, ◌⇏◌}

-- Answer 3 kills the spare under trial. Then a write, a rewrite at the threshold and the store are not made.
abbrev pub latched : Run
latched =
    record {
      sectors = disk [] [];
      exchanges =
          found [] [] ++ opens ++ asks_write 2 17 (bytes 1)
          ++ (go ⇒ write 17 ∷ times_out ⇒ write 4928 ∷ unsettled ⇒ finished 0x15 0x00 0x80 0 ∷ [])
          ++ opens ++ asks_write 1 17 (bytes 2) ++ (go ⇒ finished 0x11 0x00 0x00 0 ∷ [])
          ++ opens ++ asks_read 17 0 0 ++ (go ⇒ read 17 ∷ garbles 9 ⇒ read 17 ∷ gives 7 ⇒ finished 0x19 0x00 0x00 0 ∷ [])
          ++ opens ++ asks_table 0x00;
      part = form_a (dead ∷ []) [];
      place = sector 17;
      candidates = bytes 1 ∷ bytes 7 ∷ [];
    }

pub under_the_latch_no_write_is_made : (old : Drive) → Happens old latched
unfolding computed
under_the_latch_no_write_is_made old = happens old latched refl

-- Answer 3 to a plain write latches. A reset keeps the latch. Then write and write/verify are not made, too many data bytes are
-- told before it, FFFFFE is good, and so is a read below its threshold.
abbrev write_unsettled : Run
write_unsettled =
    record {
      sectors = disk [] [];
      exchanges =
          found [] [] ++ opens ++ asks_write 1 17 (bytes 1) ++ (go ⇒ write 17 ∷ unsettled ⇒ finished 0x11 0x00 0x80 0 ∷ reset ⇒ wait ∷ [])
          ++ opens ++ asks_write 1 17 (bytes 2) ++ (go ⇒ finished 0x11 0x00 0x80 0 ∷ [])
          ++ opens ++ asks_write 2 17 (bytes 3) ++ (go ⇒ finished 0x11 0x00 0x00 0 ∷ [])
          ++ opens ++ asks_write 1 17 (replicate 533 4) ++ (go ⇒ finished 0x41 0x00 0x00 0 ∷ [])
          ++ opens ++ asks_read 0xFFFFFE 0 0 ++ (go ⇒ finished 0x00 0x00 0x00 0 ∷ [])
          ++ opens ++ asks_read 17 1 2 ++ (go ⇒ read 17 ∷ garbles 9 ⇒ read 17 ∷ garbles 9 ⇒ read 17 ∷ gives 7 ⇒ finished 0x08 0x00 0x00 1 ∷ []);
      part = bytes 7;
      place = sector 17;
      candidates = bytes 7 ∷ [];
    }

pub a_reset_keeps_the_latch_of_a_write : (old : Drive) → Happens old write_unsettled
unfolding computed
a_reset_keeps_the_latch_of_a_write old = happens old write_unsettled refl

-- Answer 3 to a reread at the present sector, after a first verify that timed out, latches and kills no spare.
abbrev present_unsettled : Run
present_unsettled =
    record {
      sectors = disk (17 ∷ []) [];
      exchanges =
          found (17 ∷ []) [] ++ opens ++ asks_write 2 17 (bytes 1)
          ++ (go ⇒ write 4928 ∷ done ⇒ read 4928 ∷ times_out ⇒ write 4928 ∷ done ⇒ read 4928 ∷ unsettled ⇒ finished 0x15 0x00 0x80 0 ∷ [])
          ++ opens ++ asks_write 1 17 (bytes 2) ++ (go ⇒ finished 0x11 0x00 0x00 0 ∷ []) ++ opens ++ asks_table 0x00;
      part = form_a (17 ∷ []) [];
      place = sector 4928;
      candidates = bytes 1 ∷ bytes 7 ∷ [];
    }

pub answer_3_at_the_present_sector_latches_and_kills_no_spare : (old : Drive) → Happens old present_unsettled
unfolding computed
answer_3_at_the_present_sector_latches_and_kills_no_spare old = happens old present_unsettled refl

-- Answer 3 to a spare's reread kills the spare under trial, and latches.
abbrev verify_unsettled : Run
verify_unsettled =
    record {
      sectors = disk [] [];
      exchanges =
          found [] [] ++ opens ++ asks_write 2 17 (bytes 1)
          ++ (go ⇒ write 17 ∷ times_out ⇒ write 4928 ∷ done ⇒ read 4928 ∷ gives 1 ⇒ read 4928 ∷ unsettled ⇒ finished 0x15 0x00 0x80 0 ∷ [])
          ++ opens ++ asks_write 1 17 (bytes 2) ++ (go ⇒ finished 0x11 0x00 0x00 0 ∷ []) ++ opens ++ asks_table 0x00;
      part = form_a (dead ∷ []) [];
      place = sector 17;
      candidates = bytes 1 ∷ bytes 7 ∷ [];
    }

pub answer_3_at_a_spare_kills_it : (old : Drive) → Happens old verify_unsettled
unfolding computed
answer_3_at_a_spare_kills_it old = happens old verify_unsettled refl

-- Answer 3 to a reread ends the read with what it met until then, and makes no bad entry.
abbrev reread_unsettled : Run
reread_unsettled =
    record {
      sectors = disk [] [];
      exchanges =
          found [] [] ++ opens ++ asks_read 17 2 2
          ++ (go ⇒ read 17 ∷ garbles 9 ⇒ read 17 ∷ garbles 9 ⇒ read 17 ∷ unsettled ⇒ finished 0x19 0x00 0x80 1 ∷ []) ++ opens ++ asks_table 0x00;
      part = form_a [] [];
      place = sector 17;
      candidates = bytes 7 ∷ [];
    }

pub answer_3_to_a_reread_ends_it_with_what_it_met : (old : Drive) → Happens old reread_unsettled
unfolding computed
answer_3_to_a_reread_ends_it_with_what_it_met old = happens old reread_unsettled refl

-- Answer 3 is neither a timeout nor a CRC error: to a first write, to a first verify, and to a trial's write after a CRC error.
abbrev first_unsettled : Run
first_unsettled =
    record {
      sectors = disk [] [];
      exchanges = found [] [] ++ opens ++ asks_write 2 17 (bytes 1) ++ (go ⇒ write 17 ∷ unsettled ⇒ finished 0x11 0x00 0x80 0 ∷ []);
      part = bytes 1;
      place = sector 17;
      candidates = bytes 1 ∷ bytes 7 ∷ [];
    }

pub answer_3_to_a_first_write_is_no_timeout : (old : Drive) → Happens old first_unsettled
unfolding computed
answer_3_to_a_first_write_is_no_timeout old = happens old first_unsettled refl

abbrev verify_unsettled_at_once : Run
verify_unsettled_at_once =
    record {
      sectors = disk [] [];
      exchanges =
          found [] [] ++ opens ++ asks_write 2 17 (bytes 1) ++ (go ⇒ write 17 ∷ done ⇒ read 17 ∷ unsettled ⇒ finished 0x11 0x00 0x80 0 ∷ [])
          ++ opens ++ asks_write 2 17 (bytes 2) ++ (go ⇒ finished 0x11 0x00 0x00 0 ∷ []) ++ opens ++ asks_table 0x00;
      part = form_a [] [];
      place = sector 17;
      candidates = bytes 1 ∷ bytes 7 ∷ [];
    }

pub answer_3_to_a_first_verify_latches : (old : Drive) → Happens old verify_unsettled_at_once
unfolding computed
answer_3_to_a_first_verify_latches old = happens old verify_unsettled_at_once refl

abbrev trial_unsettled : Run
trial_unsettled =
    record {
      sectors = disk [] [];
      exchanges =
          found [] [] ++ opens ++ asks_write 2 17 (bytes 1) ++ (go ⇒ write 17 ∷ done ⇏ read 17 ∷ garbles 9 ⇒ write 17 ∷ unsettled ⇒ finished 0x19 0x00 0x80 0 ∷ []);
      part = bytes 1;
      place = sector 17;
      candidates = bytes 1 ∷ bytes 7 ∷ [];
    }

pub answer_3_to_a_trials_write_is_no_timeout : (old : Drive) → Happens old trial_unsettled
unfolding computed
answer_3_to_a_trials_write_is_no_timeout old = happens old trial_unsettled refl

-- Too many data bytes, a number of no block and a read that failed latch nothing: the write after them is made, and one with no
-- spare unused after that.
abbrev not_latched : Run
not_latched =
    record {
      sectors = disk (replicate 32 dead) [];
      exchanges =
          found (replicate 32 dead) [] ++ opens ++ asks_write 1 17 (replicate 533 4) ++ (go ⇒ finished 0x41 0x00 0x80 0 ∷ [])
          ++ opens ++ asks_read 9728 0 0 ++ (go ⇒ finished 0x01 0x00 0x40 0 ∷ [])
          ++ opens ++ asks_read 18 0 1 ++ (go ⇒ read 18 ∷ []) ++ replicate 10 (times_out ⇒ read 18) ++ stored times_out (finished 0x05 0x00 0x00 0)
          ++ opens ++ asks_write 2 17 (bytes 1) ++ (go ⇒ write 17 ∷ times_out ⇒ finished 0x05 0x40 0x00 0 ∷ [])
          ++ opens ++ asks_write 1 17 (bytes 2) ++ (go ⇒ write 17 ∷ done ⇒ finished 0x00 0x00 0x00 0 ∷ []);
      part = bytes 2;
      place = sector 17;
      candidates = bytes 2 ∷ [];
    }

pub nothing_but_answer_3_latches : (old : Drive) → Happens old not_latched
unfolding computed
nothing_but_answer_3_latches old = happens old not_latched refl

-- A good read does not drop the latch: the write after it is not made.
abbrev latch_stays : Run
latch_stays =
    record {
      sectors = disk [] [];
      exchanges =
          found [] [] ++ opens ++ asks_write 1 17 (bytes 1) ++ (go ⇒ write 17 ∷ unsettled ⇒ finished 0x11 0x00 0x80 0 ∷ [])
          ++ opens ++ asks_read 18 0 1 ++ (go ⇒ read 18 ∷ gives 7 ⇒ finished 0x00 0x00 0x00 0 ∷ [])
          ++ opens ++ asks_write 1 17 (bytes 2) ++ (go ⇒ finished 0x11 0x00 0x00 0 ∷ []);
      part = bytes 2;
      place = sector 17;
      candidates = bytes 1 ∷ bytes 7 ∷ [];
    }

pub a_good_read_keeps_the_latch : (old : Drive) → Happens old latch_stays
unfolding computed
a_good_read_keeps_the_latch old = happens old latch_stays refl
