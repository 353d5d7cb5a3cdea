-- Reads, computed: lawful lists of calls, each beside what it is answered.
use mathlib.Core.Path.{refl}
use mathlib.Core.Bool.{cond}
use mathlib.Core.List.{[], ◌∷◌, ◌++◌}
use lib.Dec.{eqb}
use lib.ListN.{replicate}
use Rattle.image.specs.FormA.{form_a}
use Rattle.drive.specs.declared.Drive.{Drive}
use Rattle.drive.specs.History.{held, unreadable}
use Rattle.drive.proofs.Computing.{computed}
use Rattle.drive.proofs.Transcripts.{◌⇒◌, Run, Happens, happens, bytes, disk, sector, go, gives, done, garbles, times_out, found, opens, stored, asks_read, asks_write, read, write, finished}

-- A write and a read, both good at once.
abbrev written_then_read : Run
written_then_read =
    record {
      sectors = disk [] [];
      exchanges =
          found [] []
          ++ opens ++ asks_write 1 17 (bytes 1) ++ (go ⇒ write 17 ∷ done ⇒ finished 0x00 0x00 0x80 0 ∷ [])
          ++ opens ++ asks_read 17 2 2 ++ (go ⇒ read 17 ∷ gives 1 ⇒ finished 0x00 0x00 0x00 0 ∷ []);
      part = bytes 1;
      place = sector 17;
      candidates = bytes 1 ∷ [];
    }

pub a_good_read_brings_the_written_bytes : (old : Drive) → Happens old written_then_read
unfolding computed
a_good_read_brings_the_written_bytes old = happens old written_then_read refl

-- Two of three rereads fail, and T is 3. What comes garbled after the first good read is not kept.
abbrev rereads_come_good : Run
rereads_come_good =
    record {
      sectors = disk [] [];
      exchanges =
          found [] []
          ++ opens ++ asks_read 17 3 3
          ++ (go ⇒ read 17 ∷ garbles 9 ⇒ read 17 ∷ times_out ⇒ read 17 ∷ gives 7 ⇒ read 17 ∷ garbles 9 ⇒ finished 0x0C 0x00 0x80 2 ∷ []);
      part = bytes 7;
      place = sector 17;
      candidates = bytes 7 ∷ [];
    }

pub below_the_threshold_it_stays : (old : Drive) → Happens old rereads_come_good
unfolding computed
below_the_threshold_it_stays old = happens old rereads_come_good refl

-- No sector but the table's can be read as the list begins.
abbrev pub unreadable_at_first : Run
unreadable_at_first =
    record {
      sectors = λ s. cond (eqb s.0 4960) (held (form_a [] [])) unreadable;
      exchanges = found [] [] ++ opens ++ asks_write 1 17 (bytes 1) ++ (go ⇒ write 17 ∷ done ⇒ finished 0x00 0x00 0x80 0 ∷ []);
      part = bytes 1;
      place = sector 17;
      candidates = bytes 1 ∷ [];
    }

pub a_sector_that_could_not_be_read_is_written : (old : Drive) → Happens old unreadable_at_first
unfolding computed
a_sector_that_could_not_be_read_is_written old = happens old unreadable_at_first refl

-- Two blocks are written, and 273 besides, whose low byte is 17.
abbrev pub three_blocks : Run
three_blocks =
    record {
      sectors = disk [] [];
      exchanges =
          found [] []
          ++ opens ++ asks_write 1 17 (bytes 1) ++ (go ⇒ write 17 ∷ done ⇒ finished 0x00 0x00 0x80 0 ∷ [])
          ++ opens ++ asks_write 1 18 (bytes 2) ++ (go ⇒ write 18 ∷ done ⇒ finished 0x00 0x00 0x00 0 ∷ [])
          ++ opens ++ asks_write 1 273 (bytes 3) ++ (go ⇒ write 273 ∷ done ⇒ finished 0x00 0x00 0x00 0 ∷ [])
          ++ opens ++ asks_read 17 0 1 ++ (go ⇒ read 17 ∷ gives 1 ⇒ finished 0x00 0x00 0x00 0 ∷ []);
      part = bytes 1;
      place = sector 17;
      candidates = bytes 1 ∷ [];
    }

pub blocks_do_not_touch_one_another : (old : Drive) → Happens old three_blocks
unfolding computed
blocks_do_not_touch_one_another old = happens old three_blocks refl

-- The first read is good, so it is done whatever T is.
abbrev good_at_once : Run
good_at_once =
    record {
      sectors = disk [] [];
      exchanges = found [] [] ++ opens ++ asks_read 17 5 0 ++ (go ⇒ read 17 ∷ gives 7 ⇒ finished 0x00 0x00 0x80 0 ∷ []);
      part = bytes 7;
      place = sector 17;
      candidates = bytes 7 ∷ [];
    }

pub a_first_good_read_is_done_whatever_t_is : (old : Drive) → Happens old good_at_once
unfolding computed
a_first_good_read_is_done_whatever_t_is old = happens old good_at_once refl

-- No read is good. The data part holds the bytes of answer 1, which are no candidate.
abbrev only_garbled : Run
only_garbled =
    record {
      sectors = disk [] [];
      exchanges =
          found [] [] ++ opens ++ asks_read 17 0 1
          ++ (go ⇒ read 17 ∷ garbles 9 ⇒ read 17 ∷ []) ++ replicate 9 (times_out ⇒ read 17) ++ stored times_out (finished 0x0D 0x00 0x80 0);
      part = bytes 9;
      place = sector 17;
      candidates = bytes 7 ∷ [];
    }

pub until_a_good_read_the_bytes_of_answer_1_are_kept : (old : Drive) → Happens old only_garbled
unfolding computed
until_a_good_read_the_bytes_of_answer_1_are_kept old = happens old only_garbled refl
