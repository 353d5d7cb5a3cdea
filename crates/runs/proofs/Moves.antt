-- Moves, computed.
use mathlib.Core.Path.{◌≡◌, refl}
use mathlib.Core.Bool.{true}
use mathlib.Core.List.{[], ◌∷◌, ◌++◌}
use lib.ListN.{replicate}
use Rattle.lists.specs.Lists.{dead}
use Rattle.image.specs.FormA.{form_a}
use Rattle.drive.specs.declared.Drive.{Drive}
use Rattle.drive.specs.History.{unreadable}
use Rattle.drive.specs.Run.{after_all}
use Rattle.drive.proofs.Computing.{computed}
use Rattle.drive.proofs.Transcripts.{◌⇒◌, ◌⇏◌, Run, from, calls, Happens, happens, bytes, disk, sector, go, gives, done, garbles, times_out, found, opens, asks_read, asks_write, rereads, trial, asks_table, read, write, store, finished}

-- The block is at spare 0. The write of a write/verify there times out, so it moves on at once; the spare passes with timeouts, and
-- the table's image then shows the old entry dead.
abbrev moved_to_spare1 : Run
moved_to_spare1 =
    record {
      sectors = disk (17 ∷ []) [];
      exchanges =
          found (17 ∷ []) []
          ++ opens ++ asks_write 2 17 (bytes 1)
          ++ (go ⇒ write 4928 ∷ times_out ⇒ write 4929 ∷ []) ++ trial 4929 1 times_out store ++ (done ⇒ finished 0x04 0x04 0x80 0 ∷ [])
          ++ opens ++ asks_table 0x00;
      part = form_a (dead ∷ 17 ∷ []) [];
      place = sector 4929;
      candidates = bytes 1 ∷ [];
    }

pub a_moved_block_moves_on_to_spare_1 : (old : Drive) → Happens old moved_to_spare1
unfolding computed
a_moved_block_moves_on_to_spare_1 old = happens old moved_to_spare1 refl

-- The last spare dies, and the command after finds none to try. The bytes of each failed write are candidates.
abbrev pub no_spare_unused : Run
no_spare_unused =
    record {
      sectors = disk (replicate 31 dead) [];
      exchanges =
          found (replicate 31 dead) []
          ++ opens ++ asks_write 2 17 (bytes 1)
          ++ (go ⇒ write 17 ∷ times_out ⇒ write 4959 ∷ done ⇏ read 4959 ∷ []) ++ rereads 4959 (replicate 100 (garbles 9)) store ++ (done ⇒ finished 0x0D 0x40 0x80 0 ∷ [])
          ++ opens ++ asks_write 2 17 (bytes 2) ++ (go ⇒ write 17 ∷ times_out ⇒ finished 0x05 0x40 0x00 0 ∷ []);
      part = bytes 2;
      place = sector 17;
      candidates = bytes 2 ∷ bytes 1 ∷ bytes 7 ∷ [];
    }

pub with_no_spare_unused_it_keeps_its_sector : (old : Drive) → Happens old no_spare_unused
unfolding computed
with_no_spare_unused_it_keeps_its_sector old = happens old no_spare_unused refl

-- A write done can leave a spare unreadable too.
pub a_spare_can_become_unreadable : (old : Drive) → (after_all (from old no_spare_unused) (calls no_spare_unused)).sectors (record { 0 = 4959 }) ≡ unreadable
unfolding computed
a_spare_can_become_unreadable old = refl

-- A read at its threshold is rewritten, the write times out, and no spare is unused: it fails, and its bytes are no new candidate.
abbrev pub failed_reads : Run
failed_reads =
    record {
      sectors = disk (replicate 32 dead) [];
      exchanges =
          found (replicate 32 dead) [] ++ opens ++ asks_read 17 0 0
          ++ (go ⇒ read 17 ∷ garbles 9 ⇒ read 17 ∷ gives 7 ⇒ write 17 ∷ times_out ⇒ finished 0x0D 0x40 0x80 0 ∷ []);
      part = bytes 7;
      place = sector 17;
      candidates = bytes 7 ∷ [];
    }

pub a_failed_read_adds_no_candidate : (old : Drive) → Happens old failed_reads
unfolding computed
a_failed_read_adds_no_candidate old = happens old failed_reads refl

-- A plain write to a block of the bad list begins with a trial. Its write times out: the block moves, and leaves the list.
abbrev bad_block_moves : Run
bad_block_moves =
    record {
      sectors = disk [] (5 ∷ 17 ∷ 6 ∷ []);
      exchanges =
          found [] (5 ∷ 17 ∷ 6 ∷ [])
          ++ opens ++ asks_write 1 17 (bytes 1)
          ++ (go ⇒ write 17 ∷ times_out ⇒ write 4928 ∷ []) ++ trial 4928 1 times_out store ++ (done ⇒ finished 0x04 0x04 0x80 0 ∷ []) ++ opens ++ asks_table 0x00;
      part = form_a (17 ∷ []) (5 ∷ 6 ∷ []);
      place = sector 4928;
      candidates = bytes 1 ∷ [];
    }

pub a_bad_block_that_moves_leaves_the_bad_list : (old : Drive) → Happens old bad_block_moves
unfolding computed
a_bad_block_that_moves_leaves_the_bad_list old = happens old bad_block_moves refl

-- The block is at spare 0. A plain write and a read go there.
abbrev at_its_spare : Run
at_its_spare =
    record {
      sectors = disk (17 ∷ []) [];
      exchanges =
          found (17 ∷ []) []
          ++ opens ++ asks_write 1 17 (bytes 1) ++ (go ⇒ write 4928 ∷ done ⇒ finished 0x00 0x00 0x80 0 ∷ [])
          ++ opens ++ asks_read 17 1 1 ++ (go ⇒ read 4928 ∷ garbles 9 ⇒ read 4928 ∷ gives 1 ⇒ finished 0x08 0x00 0x00 0 ∷ []);
      part = bytes 1;
      place = sector 4928;
      candidates = bytes 1 ∷ [];
    }

pub a_moved_block_is_written_and_read_at_its_spare : (old : Drive) → Happens old at_its_spare
unfolding computed
a_moved_block_is_written_and_read_at_its_spare old = happens old at_its_spare refl

-- The first verify fails, and the trial writes the unreadable sector again: it can be read, and passes with 30 failures. The
-- first verify is none of the hundred rereads, and its failure is none of the 30.
abbrev pub unreadable_once : Run
unreadable_once =
    record {
      sectors = disk [] [];
      exchanges =
          found [] [] ++ opens ++ asks_write 2 17 (bytes 1)
          ++ (go ⇒ write 17 ∷ done ⇏ read 17 ∷ garbles 9 ⇒ write 17 ∷ []) ++ trial 17 1 times_out (finished 0x0C 0x00 0x80 0)
          ++ opens ++ asks_table 0x00;
      part = form_a [] [];
      place = sector 17;
      candidates = bytes 1 ∷ [];
    }

pub an_unreadable_sector_can_be_written_again : (old : Drive) → Happens old unreadable_once
unfolding computed
an_unreadable_sector_can_be_written_again old = happens old unreadable_once refl

-- The first spare fails and becomes dead; the block moves to the second.
abbrev spare_dies : Run
spare_dies =
    record {
      sectors = disk [] [];
      exchanges =
          found [] [] ++ opens ++ asks_write 2 17 (bytes 1)
          ++ (go ⇒ write 17 ∷ times_out ⇒ write 4928 ∷ done ⇒ read 4928 ∷ []) ++ rereads 4928 (replicate 100 (garbles 9)) (write 4929)
          ++ trial 4929 1 times_out store ++ (done ⇒ finished 0x0C 0x04 0x80 0 ∷ []) ++ opens ++ asks_table 0x00;
      part = form_a (dead ∷ 17 ∷ []) [];
      place = sector 4929;
      candidates = bytes 1 ∷ [];
    }

pub a_spare_that_fails_becomes_dead : (old : Drive) → Happens old spare_dies
unfolding computed
a_spare_that_fails_becomes_dead old = happens old spare_dies refl

-- A first verify that times out is a timeout, and the trial after it passes with 30 CRC errors.
abbrev verify_times_out : Run
verify_times_out =
    record {
      sectors = disk [] [];
      exchanges =
          found [] [] ++ opens ++ asks_write 2 17 (bytes 1)
          ++ (go ⇒ write 17 ∷ done ⇒ read 17 ∷ times_out ⇒ write 17 ∷ []) ++ trial 17 1 (garbles 9) (finished 0x0C 0x00 0x80 0);
      part = bytes 1;
      place = sector 17;
      candidates = bytes 1 ∷ [];
    }

pub a_verify_that_times_out_is_a_timeout : (old : Drive) → Happens old verify_times_out
unfolding computed
a_verify_that_times_out_is_a_timeout old = happens old verify_times_out refl

-- The first spare dies by its write's timeout, and a write at the second is awaited: the table is marked changed by now.
abbrev spare_dead : Run
spare_dead =
    record {
      sectors = disk [] [];
      exchanges =
          found [] [] ++ opens ++ asks_write 2 17 (bytes 1)
          ++ (go ⇒ write 17 ∷ times_out ⇒ write 4928 ∷ times_out ⇒ write 4929 ∷ []);
      part = bytes 1;
      place = sector 17;
      candidates = bytes 7 ∷ [];
    }

pub a_spare_that_dies_marks_the_table_at_once : (old : Drive) → (after_all (from old spare_dead) (calls spare_dead)).drive.state.marks.changed ≡ true
unfolding computed
a_spare_that_dies_marks_the_table_at_once old = refl

-- The block is at spare 0, and E reaches T: it is rewritten there, and passes.
abbrev rewritten_at_its_spare : Run
rewritten_at_its_spare =
    record {
      sectors = disk (17 ∷ []) [];
      exchanges =
          found (17 ∷ []) [] ++ opens ++ asks_read 17 0 0
          ++ (go ⇒ read 4928 ∷ garbles 9 ⇒ read 4928 ∷ gives 7 ⇒ write 4928 ∷ []) ++ trial 4928 7 (garbles 9) (finished 0x08 0x00 0x80 0);
      part = bytes 7;
      place = sector 4928;
      candidates = bytes 7 ∷ [];
    }

pub a_moved_block_at_its_threshold_is_rewritten_at_its_spare : (old : Drive) → Happens old rewritten_at_its_spare
unfolding computed
a_moved_block_at_its_threshold_is_rewritten_at_its_spare old = happens old rewritten_at_its_spare refl
