-- What holds of a byte that is sent with its parity bit, and of one that comes with a bit.
use mathlib.Core.Path.{◌≡◌, refl, sym, ap, ◌∙◌, subst⁻¹}
use mathlib.Core.Bool.{Bool, true, false, cond}
use Prim.Native.Nat.{ℕ, zero, suc, ◌+◌, ◌/◌, ◌%◌, ◌^◌, ◌<◌}
use native.Mathlib.Omega.{arith}
use native.Mathlib.Nat.{le_of_suc-le-suc, not-suc-le-zero}
use lib.Dec.{eqb}
use borrow.Author.Tests.{eqb-true, eqb-false}
use Rattle.logic.proofs.Tables.{equal_below}
use Rattle.parity.specs.Bits.{bit_at, ones_among, has_even_ones, parity_of, nine_bits, DifferAt}

-- the parity of nine bits, computed for every byte and either bit
nine : (v p : ℕ) → v < 256 → p < 2 → ones_among 9 (nine_bits v p) % 2 ≡ (p + parity_of v + 1) % 2
unfolding ones_among
nine v zero h k = equal_below 256 (λ (v : ℕ). ones_among 9 (nine_bits v 0) % 2) (λ (v : ℕ). (0 + parity_of v + 1) % 2) refl v h
nine v (suc zero) h k = equal_below 256 (λ (v : ℕ). ones_among 9 (nine_bits v 1) % 2) (λ (v : ℕ). (1 + parity_of v + 1) % 2) refl v h
nine v (suc (suc p)) h k = absurd (not-suc-le-zero (le_of_suc-le-suc (le_of_suc-le-suc k)))

pub parity_is_a_bit : (v : ℕ) → parity_of v < 2
parity_is_a_bit v = either (has_even_ones v)
  where
    either : (t : Bool) → cond t 1 0 < 2
    either true = omega arith
    either false = omega arith

-- A BYTE SENT WITH ITS BIT: AN ODD NUMBER OF ONES IN NINE BITS
pub sent_is_odd : (v : ℕ) → v < 256 → ones_among 9 (nine_bits v (parity_of v)) % 2 ≡ 1
sent_is_odd v h = nine v (parity_of v) h (parity_is_a_bit v) ∙ twice (parity_of v)
  where
    twice : (p : ℕ) → (p + p + 1) % 2 ≡ 1
    twice p = omega arith

-- and with no other bit: a byte that came with an odd number of ones came with its own bit
pub odd_is_sent : (v p : ℕ) → v < 256 → p < 2 → ones_among 9 (nine_bits v p) % 2 ≡ 1 → p ≡ parity_of v
odd_is_sent v p h k o = same p (parity_of v) k (parity_is_a_bit v) (sym (nine v p h k) ∙ o)
  where
    same : (p q : ℕ) → p < 2 → q < 2 → (p + q + 1) % 2 ≡ 1 → p ≡ q
    same p q h k o = omega arith

-- ONE WRONG BIT OF NINE IS NOTICED

same_ones : (n w x : ℕ) → ((k : ℕ) → k < n → bit_at k w ≡ bit_at k x) → ones_among n w ≡ ones_among n x
unfolding ones_among
same_ones zero w x e = refl
same_ones (suc n) w x e =
    let lower = same_ones n w x (λ (k : ℕ) (h : k < n). e k (omega arith)) in
    let last = e n (omega arith) in
    cc

-- the last of n + 1 bits differs: the n others have as many ones
last_differs : (n j w x : ℕ) → DifferAt (suc n) j w x → j ≡ n → (ones_among (suc n) w + ones_among (suc n) x) % 2 ≡ 1
unfolding ones_among
last_differs n j w x d e =
    added (ones_among n w) (ones_among n x) (w / 2 ^ n) (x / 2 ^ n)
    (same_ones n w x (λ (k : ℕ) (h : k < n). d.elsewhere k (omega arith) (λ (q : k ≡ j). omega arith)))
    (λ (q : bit_at n w ≡ bit_at n x). d.there (subst⁻¹ (λ (m : ℕ). bit_at m w ≡ bit_at m x) e q))
  where
    added : (a b c d : ℕ) → a ≡ b → (c % 2 ≡ d % 2 → ⊥) → (a + c % 2 + (b + d % 2)) % 2 ≡ 1
    added a b c d same other = omega arith

-- an earlier one differs: the last is the same, and one of the n others differs
earlier_differs : (n j w x : ℕ) → DifferAt (suc n) j w x → (j ≡ n → ⊥) → (DifferAt n j w x → (ones_among n w + ones_among n x) % 2 ≡ 1) → (ones_among (suc n) w + ones_among (suc n) x) % 2 ≡ 1
unfolding ones_among
earlier_differs n j w x d other lower =
    added (ones_among n w) (ones_among n x) (bit_at n w) (bit_at n x)
    (lower (record { within = let h = d.within in omega arith; there = d.there; elsewhere = λ (k : ℕ) (h : k < n). d.elsewhere k (omega arith) }))
    (d.elsewhere n (omega arith) (λ (q : n ≡ j). other (sym q)))
  where
    added : (a b c d : ℕ) → (a + b) % 2 ≡ 1 → c ≡ d → (a + c + (b + d)) % 2 ≡ 1
    added a b c d o same = omega arith

-- one bit differs: one of the two numbers of ones is odd, the other even
one_is_odd : (n j w x : ℕ) → DifferAt n j w x → (ones_among n w + ones_among n x) % 2 ≡ 1
one_is_odd zero j w x d = absurd (not-suc-le-zero d.within)
one_is_odd (suc n) j w x d = go (eqb j n) refl (one_is_odd n j w x)
  where
    go : (t : Bool) → eqb j n ≡ t → (DifferAt n j w x → (ones_among n w + ones_among n x) % 2 ≡ 1) → (ones_among (suc n) w + ones_among (suc n) x) % 2 ≡ 1
    go true e lower = last_differs n j w x d (eqb-true j n e)
    go false e lower = earlier_differs n j w x d (eqb-false j n e) lower

-- whatever byte v was sent, and whichever of the nine bits came wrong: the bit p that came is not that of the byte x that came
pub one_wrong_bit : (v x p j : ℕ) → v < 256 → x < 256 → DifferAt 9 j (nine_bits v (parity_of v)) (nine_bits x p) → p ≡ parity_of x → ⊥
one_wrong_bit v x p j hv hx d e =
    both_odd (ones_among 9 (nine_bits v (parity_of v))) (ones_among 9 (nine_bits x p)) (sent_is_odd v hv)
    (ap (λ (q : ℕ). ones_among 9 (nine_bits x q) % 2) e ∙ sent_is_odd x hx) (one_is_odd 9 j (nine_bits v (parity_of v)) (nine_bits x p) d)
  where
    both_odd : (a b : ℕ) → a % 2 ≡ 1 → b % 2 ≡ 1 → (a + b) % 2 ≡ 1 → ⊥
    both_odd a b p q o = omega arith
