-- A rule at every number below some n, proved by one test that is computed at all of them. The rule of a table is one.
use mathlib.Core.Path.{◌≡◌}
use mathlib.Core.Bool.{Bool, true, ◌&&◌}
use mathlib.Core.List.{List}
use Prim.Native.Nat.{ℕ, zero, suc, ◌<◌}
use native.Mathlib.Nat.{le_of_suc-le-suc, not-suc-le-zero}
use lib.Dec.{eqb}
use lib.ListN.{length, get_or}
use borrow.Author.Tests.{eqb-true}
use Rattle.logic.proofs.Bools.{and_left, and_right}

-- the test passes at 0, 1, .., n - 1
abbrev pub passes_below : ℕ → (ℕ → Bool) → Bool
passes_below zero test = true
passes_below (suc n) test = test 0 && passes_below n (λ (k : ℕ). test (suc k))

passes_at : (n : ℕ) (test : ℕ → Bool) → passes_below n test ≡ true → (k : ℕ) → k < n → test k ≡ true
passes_at zero test t k h = absurd (not-suc-le-zero h)
passes_at (suc n) test t zero h = and_left (test 0) (passes_below n (λ (k : ℕ). test (suc k))) t
passes_at (suc n) test t (suc k) h =
    passes_at n (λ (k : ℕ). test (suc k)) (and_right (test 0) (passes_below n (λ (k : ℕ). test (suc k))) t) k (le_of_suc-le-suc h)

-- two functions that are computed to be equal at all numbers below n are equal at each
pub equal_below : (n : ℕ) (f g : ℕ → ℕ) → passes_below n (λ (k : ℕ). eqb (f k) (g k)) ≡ true → (k : ℕ) → k < n → f k ≡ g k
equal_below n f g t k h = eqb-true (f k) (g k) (passes_at n (λ (k : ℕ). eqb (f k) (g k)) t k h)

-- a table that passes the test at every place has f k as its entry k
pub table_rule : (f : ℕ → ℕ) (xs : List ℕ) → passes_below (length xs) (λ (k : ℕ). eqb (get_or xs k 0) (f k)) ≡ true → (k : ℕ) → k < length xs → get_or xs k 0 ≡ f k
table_rule f xs t k h = equal_below (length xs) (λ (k : ℕ). get_or xs k 0) f t k h
