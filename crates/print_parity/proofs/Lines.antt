-- The lines, written one after the other.
use mathlib.Core.Path.{◌≡◌, refl}
use mathlib.Core.List.{List, [], ◌∷◌}
use Prim.Native.Nat.{ℕ, zero, suc, ◌+◌, ◌*◌, ◌≤◌}
use native.Mathlib.Omega.{arith}
use native.Mathlib.Numerals.{add-one}
use lib.ListN.{length, length-append}
use Rattle.buffer.specs.Runs.{over}
use Rattle.buffer.proofs.Over.{over_none, over_over, over_all}
use Rattle.parity.specs.Bits.{ones_among}
use Rattle.print_parity.specs.Lines.{line, lines}

-- 1 for 00, 0 for 01, 0 for 02
pub first_lines : lines 3 ≡ 49 ∷ 10 ∷ 48 ∷ 10 ∷ 48 ∷ 10 ∷ []
unfolding lines ones_among
first_lines = refl

pub lines_length : (n : ℕ) → length (lines n) ≡ 2 * n
unfolding lines
lines_length zero = refl
lines_length (suc n) = omega (arith, length-append (lines n) (line n), lines_length n)

-- the lines that replace what stood there: none at first, one after those before it, and all
pub no_line : (o : List ℕ) → over 0 (lines 0) o ≡ o
unfolding lines
no_line o = over_none 0 o

pub next_line : (n : ℕ) (o : List ℕ) → 2 * n ≤ length o → over (2 * n) (line n) (over 0 (lines n) o) ≡ over 0 (lines (n + 1)) o
unfolding lines
next_line n o h = rw add-one (over_over 0 (lines n) (line n) o (2 * n) (omega (arith, lines_length n)) h)

pub whole : (n : ℕ) (o : List ℕ) → length o ≡ 2 * n → over 0 (lines n) o ≡ lines n
whole n o h = over_all (lines n) o (omega (arith, lines_length n))
