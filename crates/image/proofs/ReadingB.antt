-- The causes of form B, one after the other.
use mathlib.Core.Path.{◌≡◌, refl, ap, ◌∙◌}
use mathlib.Core.List.{List, [], ◌∷◌, ◌++◌}
use Prim.Native.Nat.{ℕ, zero, suc, ◌+◌, ◌*◌}
use native.Mathlib.Omega.{arith}
use lib.ListN.{length, drop, get_or}
use lib.Seq.{get_or-drop}
use Rattle.image.specs.FormB.{causes_from}

pub causes_length : (n : ℕ) (s : List ℕ) → length (causes_from n s) ≡ n
unfolding causes_from
causes_length zero s = refl
causes_length (suc n) s = ap suc (causes_length n (drop 4 s))

next_cause : (n : ℕ) (s : List ℕ) → causes_from (suc n) s ≡ causes_from n s ++ (get_or s (3 + 4 * n) 0 ∷ [])
unfolding causes_from
next_cause zero s = refl
next_cause (suc n) s =
    let e : 4 + (3 + 4 * n) ≡ 3 + 4 * suc n = omega arith in
    let d = get_or-drop 4 s (3 + 4 * n) 0 ∙ ap (λ (k : ℕ). get_or s k 0) e in
    ap {B = List ℕ} (λ (l : List ℕ). get_or s 3 0 ∷ l) (next_cause n (drop 4 s) ∙ ap {B = List ℕ} (λ (x : ℕ). causes_from n (drop 4 s) ++ (x ∷ [])) d)

-- from place 16 on, where they are
pub causes_snoc : (n : ℕ) (s : List ℕ) → causes_from (suc n) (drop 16 s) ≡ causes_from n (drop 16 s) ++ (get_or s (19 + 4 * n) 0 ∷ [])
causes_snoc n s =
    let e : 16 + (3 + 4 * n) ≡ 19 + 4 * n = omega arith in
    next_cause n (drop 16 s) ∙ ap {B = List ℕ} (λ (x : ℕ). causes_from n (drop 16 s) ++ (x ∷ [])) (get_or-drop 16 s (3 + 4 * n) 0 ∙ ap (λ (k : ℕ). get_or s k 0) e)
