-- WHAT A CALL LEAVES IN THE BUFFER, computed: all 536 bytes.
use mathlib.Core.Path.{◌≡◌, refl}
use mathlib.Core.List.{List, [], ◌∷◌, ◌++◌}
use Prim.Native.Nat.{ℕ}
use lib.ListN.{replicate}
use Rattle.image.specs.FormA.{form_a}
use Rattle.image.specs.FormB.{form_b}
use Rattle.drive.specs.declared.Drive.{Drive}
use Rattle.drive.specs.declared.Answer.TheVariants as answer
use Rattle.drive.specs.Calls.{Call, raise, lower, feed, surface, reset, start_of, image_out_of}
use Rattle.drive.proofs.Computing.{computed}
use Rattle.drive.proofs.Examples.{ready, run, asks, crc, good, timeout, done}

-- Lends a buffer of a status 1, 2, 3, 4 and fives.
abbrev lent : List ℕ
lent = 1 ∷ 2 ∷ 3 ∷ 4 ∷ replicate 532 5

-- Returns what the calls leave of it.
abbrev after : List Call → List ℕ
after cs = (run ready lent cs).bytes

-- Asks for the data of a write or a write/verify of block 0, and for its write with the bytes 9 and 8.
abbrev opens_write : ℕ → List Call → List Call
opens_write op cs = raise ∷ lower 0x55 ∷ feed (op ∷ 0 ∷ 0 ∷ 0 ∷ []) ∷ raise ∷ lower 0x55 ∷ cs

abbrev writes : ℕ → List Call → List Call
writes op cs = opens_write op (feed (9 ∷ 8 ∷ []) ∷ raise ∷ lower 0x55 ∷ cs)

abbrev short : List ℕ
short = 9 ∷ 8 ∷ replicate 530 0

-- Reads the number FFFF00 + n.
abbrev reads_number : ℕ → List Call
reads_number n = raise ∷ lower 0x55 ∷ feed (0 ∷ 255 ∷ 255 ∷ n ∷ 0 ∷ 0 ∷ []) ∷ raise ∷ lower 0x55 ∷ []

-- "The four status bytes are written at the finish and not before."
pub record StatusKept : Type 0 where
  pub asked : after (asks 2 1 []) ≡ lent
  pub garbled : after (asks 2 1 (crc ∷ [])) ≡ 1 ∷ 2 ∷ 3 ∷ 4 ∷ replicate 532 1
  pub timed_out : after (asks 2 1 (timeout ∷ [])) ≡ lent
  pub good_once : after (asks 2 1 (crc ∷ good ∷ [])) ≡ 1 ∷ 2 ∷ 3 ∷ 4 ∷ replicate 532 7
  pub rewritten : after (asks 0 0 (crc ∷ good ∷ [])) ≡ 1 ∷ 2 ∷ 3 ∷ 4 ∷ replicate 532 7
  pub fed : after (opens_write 1 (feed (9 ∷ 8 ∷ []) ∷ [])) ≡ 1 ∷ 2 ∷ 3 ∷ 4 ∷ 9 ∷ 8 ∷ replicate 530 5
  pub fed_too_much : after (opens_write 1 (feed (replicate 531 9) ∷ feed (8 ∷ 7 ∷ []) ∷ feed (6 ∷ []) ∷ [])) ≡ 1 ∷ 2 ∷ 3 ∷ 4 ∷ replicate 531 9 ++ (8 ∷ [])
  pub offered : after (opens_write 1 (feed (9 ∷ 8 ∷ []) ∷ raise ∷ [])) ≡ 1 ∷ 2 ∷ 3 ∷ 4 ∷ short
  pub offered_too_much : after (opens_write 1 (feed (replicate 533 9) ∷ raise ∷ [])) ≡ 1 ∷ 2 ∷ 3 ∷ 4 ∷ replicate 532 9
  pub to_write : after (writes 1 []) ≡ 1 ∷ 2 ∷ 3 ∷ 4 ∷ short
  -- "verify bytes are never kept"
  pub to_verify : after (writes 2 (done ∷ [])) ≡ 1 ∷ 2 ∷ 3 ∷ 4 ∷ short
  pub verify_failed : after (writes 2 (done ∷ crc ∷ [])) ≡ 1 ∷ 2 ∷ 3 ∷ 4 ∷ short
  pub to_a_spare : after (writes 2 (done ∷ crc ∷ timeout ∷ [])) ≡ 1 ∷ 2 ∷ 3 ∷ 4 ∷ short
  pub to_store : after (asks 0 0 (replicate 11 timeout)) ≡ lent
  pub at_rest : after (raise ∷ lower 0x55 ∷ feed (1 ∷ []) ∷ reset ∷ []) ≡ lent

pub status_kept : StatusKept
unfolding computed
status_kept =
    record {
      asked = refl;
      garbled = refl;
      timed_out = refl;
      good_once = refl;
      rewritten = refl;
      fed = refl;
      fed_too_much = refl;
      offered = refl;
      offered_too_much = refl;
      to_write = refl;
      to_verify = refl;
      verify_failed = refl;
      to_a_spare = refl;
      to_store = refl;
      at_rest = refl;
    }

-- A finish writes the status, and the data part as its rule says.
pub record StatusWritten : Type 0 where
  pub read : after (asks 0 0 (good ∷ [])) ≡ 0 ∷ 0 ∷ 0 ∷ 0 ∷ replicate 532 7
  pub lost : after (asks 0 0 (replicate 11 timeout ++ (done ∷ []))) ≡ 5 ∷ 0 ∷ 0 ∷ 0 ∷ replicate 532 5
  pub written : after (writes 1 (done ∷ [])) ≡ 0 ∷ 0 ∷ 0 ∷ 0 ∷ short
  pub verified : after (writes 2 (done ∷ surface 0 short ∷ [])) ≡ 0 ∷ 0 ∷ 0 ∷ 0 ∷ short
  pub broken_off_lem : after (raise ∷ lower 0xAA ∷ []) ≡ 0x80 ∷ 0 ∷ 0 ∷ 0 ∷ replicate 532 5
  pub of_fffffe : after (reads_number 0xFE) ≡ 0 ∷ 0 ∷ 0 ∷ 0 ∷ replicate 532 5
  pub of_ffffff : after (reads_number 0xFF) ≡ 0 ∷ 0 ∷ 0 ∷ 0 ∷ form_a [] []
  pub of_fffffd : after (reads_number 0xFD) ≡ 0 ∷ 0 ∷ 0 ∷ 0 ∷ 32 ∷ 0 ∷ 0 ∷ 0 ∷ replicate 528 0
  pub of_no_number : after (reads_number 0xFC) ≡ 1 ∷ 0 ∷ 0x40 ∷ 0 ∷ replicate 532 5
  -- the store's answer leaves the data part, whatever it is
  pub unstored : after (asks 0 0 (replicate 11 timeout ++ (timeout ∷ []))) ≡ 0x05 ∷ 0 ∷ 0 ∷ 0 ∷ replicate 532 5
  pub unsettled : after (asks 0 0 (replicate 11 timeout ++ (surface 3 [] ∷ []))) ≡ 0x15 ∷ 0 ∷ 0 ∷ 0 ∷ replicate 532 5

pub status_written : StatusWritten
unfolding computed
status_written = record { read = refl; lost = refl; written = refl; verified = refl; broken_off_lem = refl; of_fffffe = refl; of_ffffff = refl; of_fffffd = refl; of_no_number = refl; unstored = refl; unsettled = refl }

-- Holds a drive whose read of block 0 was lost: the block is in the bad list, and the store is awaited.
abbrev lost_block : Drive
lost_block = (run ready lent (asks 0 0 (replicate 11 timeout))).step.drive

-- "Start .. zeroes the buffer"; image writes 532 bytes; a refused call leaves the buffer, whatever its size.
pub record OtherCalls : Type 0 where
  pub start : (d : Drive) → (start_of d lent).bytes ≡ replicate 536 0
  pub start_refused_lem : (d : Drive) → (start_of d (replicate 535 5)).bytes ≡ replicate 535 5
  pub image : (image_out_of ready (replicate 532 5)).bytes ≡ form_b 0 [] [] []
  pub image_for_the_store : (image_out_of lost_block (replicate 532 5)).bytes ≡ form_b 1 [] [] (0 ∷ [])
  pub image_keeps_the_record : (image_out_of ready (replicate 532 5)).step.drive ≡ ready
  -- "in any phase, a busy one included"
  pub image_while_busy : (image_out_of (run ready lent (asks 2 1 [])).step.drive (replicate 532 5)).step.answer ≡ answer.Wait
  pub image_refused : (image_out_of ready lent).bytes ≡ lent
  pub raise_refused : after (raise ∷ raise ∷ []) ≡ lent
  pub feed_refused : after (feed (9 ∷ []) ∷ []) ≡ lent
  pub answer_refused : after (asks 0 0 (surface 0 (9 ∷ []) ∷ [])) ≡ lent
  pub small : (run ready (replicate 535 5) (raise ∷ [])).bytes ≡ replicate 535 5

pub other_calls : OtherCalls
unfolding computed image_out_of
other_calls =
    record {
      start = λ d. refl;
      start_refused_lem = λ d. refl;
      image = refl;
      image_for_the_store = refl;
      image_keeps_the_record = refl;
      image_while_busy = refl;
      image_refused = refl;
      raise_refused = refl;
      feed_refused = refl;
      answer_refused = refl;
      small = refl;
    }
