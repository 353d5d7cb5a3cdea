-- The Adler-32 sum at a place of a walk.
use mathlib.Core.Path.{◌≡◌}
use mathlib.Core.List.{List}
use Prim.Native.Nat.{ℕ, ◌+◌, ◌*◌, ◌%◌, ◌≤◌, ◌<◌}
use native.Mathlib.Omega.{arith}
use lib.ListN.{length, take, drop, get_or, length-drop, drop_of_length-le}
use lib.Seq.{take_all}
use Rattle.logic.proofs.Walks.{step}
use Rattle.test_script.specs.Sums.{adler_from}

-- one byte more
pub sum_on : (a b : ℕ) (s : List ℕ) (i : ℕ) → i < length s → adler_from (a + get_or s i 0) (b + (a + get_or s i 0)) (drop (i + 1) s) ≡ adler_from a b (drop i s)
unfolding adler_from
sum_on a b s i h = rw (step s i h)

-- no byte is left
pub sum_end : (a b : ℕ) (s : List ℕ) (i : ℕ) → length s ≤ i → adler_from a b (drop i s) ≡ b % 65521 * 65536 + a % 65521
unfolding adler_from
sum_end a b s i h = rw (drop_of_length-le s h)

pub ruleset summing = (sum_on, sum_end)

-- the data part of a buffer of 536 bytes: all after the first four
pub data_left : (s : List ℕ) → length s ≡ 536 → take 532 (drop 4 s) ≡ drop 4 s
data_left s h = take_all 532 (drop 4 s) (omega (arith, length-drop 4 s))
