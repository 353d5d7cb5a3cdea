-- What the history reads off the status bytes of a finish.
use mathlib.Core.Path.{◌≡◌, refl, ap, ◌∙◌}
use mathlib.Core.Bool.{Bool, true, false, cond, not, ◌||◌}
use mathlib.Core.List.{◌++◌}
use Prim.Native.Nat.{ℕ, ◌+◌, ◌/◌, ◌%◌}
use native.Mathlib.Omega.{arith}
use lib.Dec.{eqb}
use Rattle.drive.specs.declared.Ending.{Ending}
use Rattle.drive.specs.declared.Ending.TheVariants as ending
use Rattle.drive.specs.declared.Seen.{Seen}
use Rattle.drive.specs.declared.Answer.{Answer}
use Rattle.drive.specs.Words.{data_of, row_of, fails, latches, status_of}
use Rattle.drive.specs.Results.{four}
use Rattle.drive.specs.Calls.{Call}
use Rattle.drive.specs.History.{good, moves, bit}
use Rattle.drive.specs.Views.{Bytes}

-- Says whether an ending is a move.
abbrev pub is_move : Ending → Bool
is_move ending.Good = false
is_move ending.Moved = true
is_move ending.Failed = false
is_move ending.Overrun = false
is_move ending.NoNumber = false
is_move (ending.NoTable w) = false
is_move ending.Latched = false
is_move ending.BadFull = false
is_move ending.NoSpare = false

-- Bit 4 and the bits for errors met leave bit 0 alone.
bit_0 : (x : ℕ) (k c t : Bool) → (x + cond k 0x10 0 + cond c 8 0 + cond t 4 0) / 1 % 2 ≡ x / 1 % 2
bit_0 x true true true = omega arith
bit_0 x true true false = omega arith
bit_0 x true false true = omega arith
bit_0 x true false false = omega arith
bit_0 x false true true = omega arith
bit_0 x false true false = omega arith
bit_0 x false false true = omega arith
bit_0 x false false false = omega arith

-- No row has bit 0.
even_row : (e : Ending) → (row_of e).0 / 1 % 2 ≡ 0
even_row ending.Good = refl
even_row ending.Moved = refl
even_row ending.Failed = refl
even_row ending.Overrun = refl
even_row ending.NoNumber = refl
even_row (ending.NoTable true) = refl
even_row (ending.NoTable false) = refl
even_row ending.Latched = refl
even_row ending.BadFull = refl
even_row ending.NoSpare = refl

failed_bit : (x : ℕ) (failed : Bool) → x / 1 % 2 ≡ 0 → bit 1 (x + cond failed 1 0) ≡ failed
unfolding bit
failed_bit x true h = let z : (x + 1) / 1 % 2 ≡ 1 = omega arith in rw z
failed_bit x false h = let z : (x + 0) / 1 % 2 ≡ 0 = omega arith in rw z

moved_bit : (e : Ending) → bit 4 (row_of e).1 ≡ is_move e
unfolding bit
moved_bit ending.Good = refl
moved_bit ending.Moved = refl
moved_bit ending.Failed = refl
moved_bit ending.Overrun = refl
moved_bit ending.NoNumber = refl
moved_bit (ending.NoTable w) = refl
moved_bit ending.Latched = refl
moved_bit ending.BadFull = refl
moved_bit ending.NoSpare = refl

module _ (c : Call) (a : Answer) (e : Ending) (s : Seen) (unstored unsettled n : Bool) (u : Bytes) where
  abbrev pub ended : Bytes
  ended = four (status_of e s unstored unsettled n) ++ data_of u

  pub good_is : good (record { call = c; answer = a; buffer = ended }) ≡ not (fails e || unstored)
  unfolding good status_of bit
  good_is =
      ap not (ap (λ (x : ℕ). eqb x 1) (bit_0 ((row_of e).0 + cond (fails e || unstored) 1 0) (latches e || unsettled) s.crc s.timeout) ∙ failed_bit (row_of e).0 (fails e || unstored) (even_row e))

  pub moves_is : moves (record { call = c; answer = a; buffer = ended }) ≡ is_move e
  unfolding moves status_of
  moves_is = moved_bit e

  pub data_ended : data_of ended ≡ data_of u
  unfolding status_of data_of
  data_ended = refl
