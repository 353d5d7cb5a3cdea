-- The longest runs of equal bytes, as chunks of a slice.
use mathlib.Core.Path.{◌≡◌, refl, ap, sym, ◌∙◌}
use mathlib.Core.Bool.{Bool, true, false}
use mathlib.Core.List.{List, [], ◌∷◌, ◌++◌}
use Prim.Native.Nat.{ℕ, zero, suc, ◌+◌, ◌-◌, ◌≤◌, ◌<◌}
use native.Mathlib.Numerals.{add-one}
use native.Mathlib.Omega.{arith}
use borrow.Author.Tests.{eq-eqb, ne_eqb, eqb-true, eqb-false}
use lib.Dec.{eqb}
use lib.ListN.{length, drop, get_or}
use Rattle.std.proofs.lemmas.List.{drop_at}
use Rattle.std.proofs.Common.{length-append}
use Rattle.test_text.specs.Printing.{leading, Same, joined, runs, run_text, runs_text, bytes_text}

run_of : ℕ → ℕ → Same
run_of x n = record { byte = x; times = n }

-- the first run, and those after it
first_run : (x : ℕ) (xs : List ℕ) → runs (x ∷ xs) ≡ run_of x (suc (leading x xs)) ∷ runs (drop (leading x xs) xs)
unfolding runs leading run_of
first_run x [] = refl
first_run x (y ∷ ys) = go (eqb y x) refl (first_run y ys)
  where
    go : (t : Bool) → eqb y x ≡ t → runs (y ∷ ys) ≡ run_of y (suc (leading y ys)) ∷ runs (drop (leading y ys) ys)
        → joined x (runs (y ∷ ys)) ≡ run_of x (suc (leading x (y ∷ ys))) ∷ runs (drop (leading x (y ∷ ys)) (y ∷ ys))
    go true e r = let w = eqb-true y x e in rw (r, e, w)
    go false e r = rw (e, r, e)

-- n elements are equal to the x before them, and the next is not
leading_is : (x : ℕ) (xs : List ℕ) (n : ℕ) → n ≤ length xs
    → ((k d : ℕ) → k < n → eqb (get_or (x ∷ xs) k d) (get_or xs k d) ≡ true)
    → (n < length xs → (d : ℕ) → eqb (get_or (x ∷ xs) n d) (get_or xs n d) ≡ false)
    → n ≡ leading x xs
unfolding leading
leading_is x [] n h a b = omega arith
leading_is x (y ∷ ys) zero h a b =
    let e = eqb-false x y (b (omega arith) 0) in
    let ne : y ≡ x → ⊥ = λ q. e (sym q) in
    rw (ne_eqb y x ne)
leading_is x (y ∷ ys) (suc n) h a b =
    let e = eqb-true x y (a 0 0 (omega arith)) in
    let r = leading_is y ys n (omega arith) (λ k d p. a (suc k) d (omega arith)) (λ p d. b (omega arith) d) in
    rw (eq-eqb y x (sym e)) (ap suc (r ∙ ap (λ (v : ℕ). leading v ys) (sym e)))

pub no_chunk : (s : List ℕ) → length s ≡ 0 → bytes_text s ≡ []
unfolding runs runs_text
no_chunk [] h = refl
no_chunk (x ∷ xs) h = absurd (omega arith)

-- the text of the first chunk of equal elements, and of what is after it
pub chunk_text : (s run rest : List ℕ) → s ≡ run ++ rest → 0 < length run
    → ((k d : ℕ) → k + 1 < length run → eqb (get_or s k d) (get_or s (k + 1) d) ≡ true)
    → (length run < length s → (d : ℕ) → eqb (get_or s (length run - 1) d) (get_or s (length run) d) ≡ false)
    → bytes_text s ≡ run_text (get_or run 0 0) (length run) ++ bytes_text rest
unfolding runs_text run_of
chunk_text [] run rest e h a b = absurd (omega (arith, ap length e, length-append run rest))
chunk_text (x ∷ xs) [] rest e h a b = absurd (omega arith)
chunk_text (x ∷ xs) (r ∷ rs) rest e h a b =
    let n = length rs in
    let z : suc n - 1 ≡ n = omega arith in
    let l : n ≤ length xs = omega (arith, ap length e, length-append rs rest) in
    let k = leading_is x xs n l (λ k d p. rw add-one at (a k d (omega arith))) (λ p d. rw z at (b (omega arith) d)) in
    let q : x ≡ r = cc in
    let t : xs ≡ rs ++ rest = cc in
    rw (first_run x xs, ← k, t, drop_at rs rest n refl, q)
