-- Comparing runs: the walk from the front, and what the tests say.
use mathlib.Core.Path.{◌≡◌, refl, ap, sym}
use mathlib.Core.Bool.{Bool, true, false, ◌&&◌, true≢false}
use mathlib.Core.List.{List, [], ◌∷◌}
use Prim.Native.Nat.{ℕ, zero, suc, ◌+◌, ◌≤◌, ◌<◌}
use borrow.Author.Tests.{eq-eqb, eqb-true}
use lib.Dec.{eqb}
use lib.ListN.{length, drop, get_or, replicate, drop_of_length-le}
use Rattle.logic.proofs.Bools.{and_left, and_right}
use Rattle.logic.proofs.Walks.{step}
use Rattle.buffer.specs.Runs.{same, all_are}

-- what was passed, gathered
pub all_step : (t : Bool) (v : ℕ) (s : List ℕ) (i : ℕ) → i < length s → (t && eqb (get_or s i 0) v && all_are v (drop (i + 1) s)) ≡ (t && all_are v (drop i s))
unfolding all_are
all_step true v s i h = rw (step s i h)
all_step false v s i h = refl

pub all_end : (t : Bool) (v : ℕ) (s : List ℕ) (i : ℕ) → length s ≤ i → (t && all_are v (drop i s)) ≡ t
unfolding all_are
all_end true v s i h = rw (drop_of_length-le s h)
all_end false v s i h = refl

pub same_step : (t : Bool) (a b : List ℕ) (i : ℕ) → i < length a → i < length b
    → (t && eqb (get_or a i 0) (get_or b i 0) && same (drop (i + 1) a) (drop (i + 1) b)) ≡ (t && same (drop i a) (drop i b))
unfolding same
same_step true a b i h k = rw (step a i h, step b i k)
same_step false a b i h k = refl

pub same_end : (t : Bool) (a b : List ℕ) (i : ℕ) → length a ≤ i → length b ≤ i → (t && same (drop i a) (drop i b)) ≡ t
unfolding same
same_end true a b i h k = rw (drop_of_length-le a h, drop_of_length-le b k)
same_end false a b i h k = refl

-- a walk that compares with one byte
pub ruleset gathering = (all_step, all_end)

-- runs that pass are equal, and equal ones pass
pub same_equal : (a b : List ℕ) → same a b ≡ true → a ≡ b
unfolding same
same_equal [] [] h = refl
same_equal [] (y ∷ ys) h = absurd (true≢false (sym h))
same_equal (x ∷ xs) [] h = absurd (true≢false (sym h))
same_equal (x ∷ xs) (y ∷ ys) h =
    let e = eqb-true x y (and_left (eqb x y) (same xs ys) h) in
    let r = same_equal xs ys (and_right (eqb x y) (same xs ys) h) in
    cc

pub same_refl : (a : List ℕ) → same a a ≡ true
unfolding same
same_refl [] = refl
same_refl (x ∷ xs) = rw (eq-eqb x x refl) (same_refl xs)

pub same_longer : (a b : List ℕ) → (length a ≡ length b → ⊥) → same a b ≡ false
same_longer a b n = go (same a b) refl
  where
    go : (t : Bool) → same a b ≡ t → t ≡ false
    go true e = absurd (n (ap length (same_equal a b e)))
    go false e = refl

-- a walk that compares two runs, of which one may be longer
pub ruleset comparing = (same_step, same_end, same_longer)

pub all_replicate : (v : ℕ) (l : List ℕ) → all_are v l ≡ true → l ≡ replicate (length l) v
unfolding all_are
all_replicate v [] h = refl
all_replicate v (x ∷ xs) h =
    let e = eqb-true x v (and_left (eqb x v) (all_are v xs) h) in
    let r = all_replicate v xs (and_right (eqb x v) (all_are v xs) h) in
    cc

pub replicate_all : (v n : ℕ) → all_are v (replicate n v) ≡ true
unfolding all_are
replicate_all v zero = refl
replicate_all v (suc n) = rw (eq-eqb v v refl) (replicate_all v n)
