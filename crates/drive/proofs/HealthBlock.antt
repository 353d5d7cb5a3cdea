-- Document 02, request 3, computed: the health block.
use mathlib.Core.Path.{refl}
use mathlib.Core.List.{[], ◌∷◌, ◌++◌}
use lib.ListN.{replicate}
use Rattle.lists.specs.Lists.{dead}
use Rattle.drive.specs.declared.Drive.{Drive}
use Rattle.drive.specs.History.{held}
use Rattle.drive.specs.Views.{nowhere}
use Rattle.drive.proofs.Computing.{computed}
use Rattle.drive.proofs.Transcripts.{◌⇒◌, Run, Happens, happens, bytes, disk, sector, go, gives, done, times_out, unsettled, found, opens, asks_read, asks_write, asks_health, health_block, eleven_timeouts, wait, read, write, finished}

-- After a read that left sevens in the data part. Two spares are used, one of them dead, and three blocks are bad.
abbrev health_of_lists : Run
health_of_lists =
    record {
      sectors = disk (dead ∷ 20 ∷ []) (5 ∷ 6 ∷ 7 ∷ []);
      exchanges =
          found (dead ∷ 20 ∷ []) (5 ∷ 6 ∷ 7 ∷ [])
          ++ opens ++ asks_read 17 2 2 ++ (go ⇒ read 17 ∷ gives 7 ⇒ finished 0x00 0x00 0x80 0 ∷ [])
          ++ opens ++ asks_health 0x00;
      part = health_block 30 3 0 0;
      place = sector 17;
      candidates = bytes 7 ∷ [];
    }

pub the_health_block_counts_both_lists : (old : Drive) → Happens old health_of_lists
unfolding computed
the_health_block_counts_both_lists old = happens old health_of_lists refl

-- It is the first finish after the start, and then no more.
abbrev health_first : Run
health_first =
    record {
      sectors = disk [] [];
      exchanges = found [] [] ++ opens ++ asks_health 0x80 ++ opens ++ asks_health 0x00;
      part = health_block 32 0 0 0;
      place = sector 17;
      candidates = bytes 7 ∷ [];
    }

pub the_health_block_shows_the_first_finish_once : (old : Drive) → Happens old health_first
unfolding computed
the_health_block_shows_the_first_finish_once old = happens old health_first refl

-- A read fails, so its block is bad; the store times out.
abbrev health_unstored : Run
health_unstored =
    record {
      sectors = disk [] [];
      exchanges = found [] [] ++ eleven_timeouts times_out (finished 0x05 0x00 0x80 0) ++ opens ++ asks_health 0x00;
      part = health_block 32 1 0 1;
      place = sector 17;
      candidates = bytes 7 ∷ [];
    }

pub after_a_failed_store_the_health_block_shows_the_mark : (old : Drive) → Happens old health_unstored
unfolding computed
after_a_failed_store_the_health_block_shows_the_mark old = happens old health_unstored refl

-- The same where the store is done.
abbrev health_stored : Run
health_stored =
    record {
      sectors = disk [] [];
      exchanges = found [] [] ++ eleven_timeouts done (finished 0x05 0x00 0x80 0) ++ opens ++ asks_health 0x00;
      part = health_block 32 1 0 0;
      place = sector 17;
      candidates = bytes 7 ∷ [];
    }

pub after_a_done_store_the_health_block_shows_no_mark : (old : Drive) → Happens old health_stored
unfolding computed
after_a_done_store_the_health_block_shows_no_mark old = happens old health_stored refl

-- Answer 3 to a read latches, and changes no entry.
abbrev health_unsettled : Run
health_unsettled =
    record {
      sectors = disk [] [];
      exchanges = found [] [] ++ opens ++ asks_read 17 2 2 ++ (go ⇒ read 17 ∷ unsettled ⇒ finished 0x11 0x00 0x80 0 ∷ []) ++ opens ++ asks_health 0x00;
      part = health_block 32 0 1 0;
      place = sector 17;
      candidates = bytes 7 ∷ [];
    }

pub the_health_block_shows_a_latch_with_nothing_unstored : (old : Drive) → Happens old health_unsettled
unfolding computed
the_health_block_shows_a_latch_with_nothing_unstored old = happens old health_unsettled refl

-- Answer 3 kills the spare under trial, and under the latch that is not stored.
abbrev health_latched : Run
health_latched =
    record {
      sectors = disk [] [];
      exchanges =
          found [] [] ++ opens ++ asks_write 2 17 (bytes 1)
          ++ (go ⇒ write 17 ∷ times_out ⇒ write 4928 ∷ unsettled ⇒ finished 0x15 0x00 0x80 0 ∷ [])
          ++ opens ++ asks_health 0x00;
      part = health_block 31 0 1 1;
      place = sector 17;
      candidates = bytes 1 ∷ bytes 7 ∷ [];
    }

pub the_health_block_shows_a_latch_and_the_mark : (old : Drive) → Happens old health_latched
unfolding computed
the_health_block_shows_a_latch_and_the_mark old = happens old health_latched refl

-- Ten reads of the start give bytes that are no image. With no table a read of FFFFFD fails as any read does, and leaves the part; a
-- write to it is an invalid number all the same.
abbrev health_unknown : Run
health_unknown =
    record {
      sectors = λ s. held (bytes 7);
      exchanges =
          replicate 9 (gives 7 ⇒ read 4960) ++ (gives 7 ⇒ wait ∷ [])
          ++ opens ++ asks_write 1 0xFFFFFD (bytes 1) ++ (go ⇒ finished 0x01 0x00 0xC0 0 ∷ [])
          ++ opens ++ asks_read 0xFFFFFD 2 2 ++ (go ⇒ finished 0x01 0x08 0x00 0 ∷ []);
      part = bytes 1;
      place = nowhere;
      candidates = [];
    }

pub with_no_table_there_is_no_health_block : (old : Drive) → Happens old health_unknown
unfolding computed
with_no_table_there_is_no_health_block old = happens old health_unknown refl

-- Neither write to FFFFFD is good, and with 533 bytes fed it is those that it fails for.
abbrev health_written : Run
health_written =
    record {
      sectors = disk [] [];
      exchanges =
          found [] []
          ++ opens ++ asks_write 1 0xFFFFFD (bytes 1) ++ (go ⇒ finished 0x01 0x00 0xC0 0 ∷ [])
          ++ opens ++ asks_write 2 0xFFFFFD (replicate 533 2) ++ (go ⇒ finished 0x41 0x00 0x00 0 ∷ [])
          ++ opens ++ asks_write 2 0xFFFFFD (bytes 3) ++ (go ⇒ finished 0x01 0x00 0x40 0 ∷ []);
      part = bytes 3;
      place = sector 17;
      candidates = bytes 7 ∷ [];
    }

pub a_write_to_fffffd_is_an_invalid_number : (old : Drive) → Happens old health_written
unfolding computed
a_write_to_fffffd_is_an_invalid_number old = happens old health_written refl
