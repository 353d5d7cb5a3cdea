-- Characters in a range, and the decimal digits of a number.
use mathlib.Core.Path.{◌≡◌, refl}
use mathlib.Core.Bool.{true}
use mathlib.Core.List.{[], ◌∷◌, ◌++◌}
use Prim.Native.Nat.{ℕ, zero, suc, ◌+◌, ◌/◌, ◌%◌, ◌≤◌, ◌<◌}
use native.Mathlib.Omega.{arith}
use borrow.Author.Tests.{leb-true, lt-ltb, le-ltb}
use lib.Dec.{leb}
use Rattle.logic.proofs.Bools.{and_left, and_right}
use Rattle.test_text.specs.Reading.{within}
use Rattle.test_text.specs.Printing.{digits, decimal_text}

pub in_range : (a b x : ℕ) → within a b x ≡ true → (a ≤ x) × (x ≤ b)
in_range a b x h = (leb-true a x (and_left (leb a x) (leb x b) h), leb-true x b (and_right (leb a x) (leb x b) h))

-- more places than a number has change nothing
places : (f g n : ℕ) → n ≤ f → n ≤ g → digits f n ≡ digits g n
unfolding digits
places zero zero n p q = refl
places zero (suc g) zero p q = refl
places zero (suc g) (suc n) p q = absurd (omega arith)
places (suc f) zero zero p q = refl
places (suc f) zero (suc n) p q = absurd (omega arith)
places (suc f) (suc g) n p q = rw (places f g (n / 10) (omega arith) (omega arith))

pub one_digit : (n : ℕ) → n < 10 → decimal_text n ≡ (48 + n) ∷ []
unfolding digits
one_digit zero h = refl
one_digit (suc n) h = rw (lt-ltb (suc n) 10 h)

pub more_digits : (n : ℕ) → 10 ≤ n → decimal_text n ≡ decimal_text (n / 10) ++ ((48 + n % 10) ∷ [])
unfolding digits
more_digits zero h = absurd (omega arith)
more_digits (suc n) h = rw (le-ltb (suc n) 10 h, places n (suc n / 10) (suc n / 10) (omega arith) (omega arith))

-- the digits of a number: those of a tenth of it, if it has more than one, and the last
pub ruleset decimal_steps = (one_digit, more_digits)
