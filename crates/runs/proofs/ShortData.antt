-- Document 02, request 1, computed: short data ends in zeros.
use mathlib.Core.Path.{refl}
use mathlib.Core.List.{List, [], ◌∷◌, ◌++◌}
use lib.ListN.{replicate}
use Rattle.drive.specs.declared.Drive.{Drive}
use Rattle.drive.specs.Calls.{raise, lower, feed, surface, reset}
use Rattle.drive.proofs.Computing.{computed}
use Rattle.drive.proofs.Transcripts.{Exchange, ◌⇒◌, Run, Happens, happens, bytes, disk, sector, go, gives, done, found, opens, command, asks_read, asks_write, wait, offer, read, write, finished}

-- SHORT DATA, each time after a read that left sevens in the data part.
abbrev sevens_read : List Exchange
sevens_read = found [] [] ++ opens ++ asks_read 17 2 2 ++ (go ⇒ read 17 ∷ gives 7 ⇒ finished 0x00 0x00 0x80 0 ∷ [])

-- Two bytes are followed by zeros. 533 bytes fail the next write.
abbrev short_and_long : Run
short_and_long =
    record {
      sectors = disk [] [];
      exchanges =
          sevens_read
          ++ opens ++ asks_write 1 17 (1 ∷ 2 ∷ []) ++ (go ⇒ write 17 ∷ done ⇒ finished 0x00 0x00 0x00 0 ∷ [])
          ++ opens ++ asks_write 1 17 (replicate 533 3) ++ (go ⇒ finished 0x41 0x00 0x00 0 ∷ []);
      part = bytes 3;
      place = sector 17;
      candidates = (1 ∷ 2 ∷ replicate 530 0) ∷ [];
    }

pub short_data_ends_in_zeros_and_long_data_is_refused : (old : Drive) → Happens old short_and_long
unfolding computed
short_data_ends_in_zeros_and_long_data_is_refused old = happens old short_and_long refl

-- A verify compares with the zeros too.
abbrev short_verified : Run
short_verified =
    record {
      sectors = disk [] [];
      exchanges =
          sevens_read
          ++ opens ++ asks_write 2 17 (1 ∷ [])
          ++ (go ⇒ write 17 ∷ done ⇒ read 17 ∷ surface 0 (1 ∷ replicate 531 0) ⇒ finished 0x00 0x00 0x00 0 ∷ []);
      part = 1 ∷ replicate 531 0;
      place = sector 17;
      candidates = (1 ∷ replicate 531 0) ∷ [];
    }

pub short_data_is_verified_with_its_zeros : (old : Drive) → Happens old short_verified
unfolding computed
short_data_is_verified_with_its_zeros old = happens old short_verified refl

-- One byte to FFFFFE.
abbrev short_to_the_buffer : Run
short_to_the_buffer =
    record {
      sectors = disk [] [];
      exchanges = sevens_read ++ opens ++ asks_write 1 0xFFFFFE (1 ∷ []) ++ (go ⇒ finished 0x00 0x00 0x00 0 ∷ []);
      part = 1 ∷ replicate 531 0;
      place = sector 17;
      candidates = bytes 7 ∷ [];
    }

pub a_short_write_to_fffffe_leaves_zeros : (old : Drive) → Happens old short_to_the_buffer
unfolding computed
a_short_write_to_fffffe_leaves_zeros old = happens old short_to_the_buffer refl

-- No byte to a number of no block.
abbrev none_fed : Run
none_fed =
    record {
      sectors = disk [] [];
      exchanges = sevens_read ++ opens ++ asks_write 2 9728 [] ++ (go ⇒ finished 0x01 0x00 0x40 0 ∷ []);
      part = bytes 0;
      place = sector 17;
      candidates = bytes 7 ∷ [];
    }

pub with_no_byte_fed_the_whole_part_is_zeroed : (old : Drive) → Happens old none_fed
unfolding computed
with_no_byte_fed_the_whole_part_is_zeroed old = happens old none_fed refl

-- Broken off at offer 06 the zeros stay; broken off before that raise nothing is zeroed.
abbrev short_broken_off : Run
short_broken_off =
    record {
      sectors = disk [] [];
      exchanges = sevens_read ++ opens ++ asks_write 1 17 (1 ∷ []) ++ (lower 0xAA ⇒ finished 0x80 0x00 0x00 0 ∷ []);
      part = 1 ∷ replicate 531 0;
      place = sector 17;
      candidates = bytes 7 ∷ [];
    }

pub the_zeros_of_a_write_broken_off_stay : (old : Drive) → Happens old short_broken_off
unfolding computed
the_zeros_of_a_write_broken_off_stay old = happens old short_broken_off refl

abbrev broken_off_before_the_raise : Run
broken_off_before_the_raise =
    record {
      sectors = disk [] [];
      exchanges =
          sevens_read
          ++ opens ++ (go ⇒ wait ∷ feed (command 1 17 []) ⇒ wait ∷ raise ⇒ offer 0x03 ∷ go ⇒ wait ∷ feed (1 ∷ []) ⇒ wait ∷ reset ⇒ wait ∷ []);
      part = 1 ∷ replicate 531 7;
      place = sector 17;
      candidates = bytes 7 ∷ [];
    }

pub before_that_raise_nothing_is_zeroed : (old : Drive) → Happens old broken_off_before_the_raise
unfolding computed
before_that_raise_nothing_is_zeroed old = happens old broken_off_before_the_raise refl
