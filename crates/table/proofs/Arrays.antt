-- A list kept in the first places of an array: what a store or a removal in the array does to the list.
use mathlib.Core.Path.{◌≡◌, refl, ap, sym, ◌∙◌}
use mathlib.Core.Bool.{Bool, true, false, cond, ◌||◌}
use mathlib.Core.List.{List, [], ◌∷◌, ◌++◌}
use Prim.Native.Nat.{ℕ, zero, suc, ◌+◌, ◌-◌, ◌≤◌, ◌<◌}
use native.Mathlib.Omega.{arith}
use native.Mathlib.Numerals.{add-one}
use lib.Dec.{eqb}
use lib.ListN.{length, take, drop, get_or, set, length-drop, length-append, take-append-drop, drop_of_length-le}
use lib.Seq.{take-suc, drop-cons, set_at, take_all, take_at, take-append-le, length-take-le, get_or-append-add, get_or-drop, append_snoc}
use Rattle.lists.specs.Lists.{index_of, member_of, strike}
use Rattle.logic.proofs.Bools.{clash}
use Rattle.table.specs.Tables.{removed}

-- a store at place k of the array is one at place k of the list
pub take_set : (n : ℕ) (a : List ℕ) (k x : ℕ) → take n (set a k x) ≡ set (take n a) k x
take_set zero a k x = refl
take_set (suc n) [] k x = refl
take_set (suc n) (y ∷ ys) zero x = refl
take_set (suc n) (y ∷ ys) (suc k) x = ap {B = List ℕ} (λ (l : List ℕ). y ∷ l) (take_set n ys k x)

-- the array without place k, but for its last place
abbrev pub gap : ℕ → List ℕ → List ℕ
gap k a = take k a ++ drop (suc k) a

pub gap_length : (k : ℕ) (a : List ℕ) → k < length a → length (gap k a) + 1 ≡ length a
gap_length k a h =
    let p = length-append (take k a) (drop (suc k) a) in
    let q = length-take-le k a (omega arith) in
    let r = length-drop (suc k) a in
    omega (arith, p, q, r)

-- from place k on it holds what was one place further
gap_at : (k : ℕ) (a : List ℕ) (j : ℕ) → k ≤ length a → get_or (gap k a) (k + j) 0 ≡ get_or a (k + j + 1) 0
gap_at k a j h =
    let q = length-take-le k a h in
    let m = ap (λ (i : ℕ). get_or (gap k a) (i + j) 0) (sym q) in
    let f : suc k + j ≡ k + j + 1 = omega arith in
    m ∙ get_or-append-add (take k a) (drop (suc k) a) j 0 ∙ get_or-drop (suc k) a j 0 ∙ ap (λ (i : ℕ). get_or a i 0) f

pub gap_start : (k : ℕ) (a : List ℕ) → k < length a → a ≡ take k (gap k a) ++ drop k a
gap_start k a h = rw (take_at (take k a) (drop (suc k) a) k (length-take-le k a (omega arith))) (sym (take-append-drop k a))

pub gap_step : (k : ℕ) (a : List ℕ) (i : ℕ) → k ≤ i → i + 1 < length a → set (take i (gap k a) ++ drop i a) i (get_or a (i + 1) 0) ≡ take (i + 1) (gap k a) ++ drop (i + 1) a
gap_step k a i p h =
    let n = gap_length k a (omega arith) in
    let i' : i < length (gap k a) = omega arith in
    let j : k + (i - k) ≡ i = omega arith in
    let v : get_or (gap k a) i 0 ≡ get_or a (i + 1) 0 = rw j at (gap_at k a (i - k) (omega arith)) in
    rw (drop-cons a i 0 (omega arith), set_at (take i (gap k a)) (get_or a i 0) (drop (suc i) a) (get_or a (i + 1) 0) i (length-take-le i (gap k a) (omega arith)), ← v, add-one, take-suc (gap k a) i 0 i')
    (sym (append_snoc (take i (gap k a)) (get_or (gap k a) i 0) (drop (suc i) a)))

pub gap_end : (k : ℕ) (a : List ℕ) (m : ℕ) → k < length a → length a ≡ m + 1 → set (take m (gap k a) ++ drop m a) m 0 ≡ removed k a
unfolding removed
gap_end k a m h e =
    let n = gap_length k a h in
    let i : m < length a = omega arith in
    let d = drop-cons a m 0 i in
    let z : drop (suc m) a ≡ [] = drop_of_length-le a {i = suc m} (omega arith) in
    rw (d, set_at (take m (gap k a)) (get_or a m 0) (drop (suc m) a) 0 m (length-take-le m (gap k a) (omega arith)), z, take_all m (gap k a) (omega arith))

-- a walk that moves up what is behind place k
pub ruleset closing = (gap_start, gap_step)

pub removed_length : (k : ℕ) (a : List ℕ) → k < length a → length (removed k a) ≡ length a
unfolding removed
removed_length k a h = omega (arith, gap_length k a h, length-append (gap k a) (0 ∷ []))

-- the list without its first entry x is the list with a gap at x's place
pub strike_gap : (x : ℕ) (l : List ℕ) → member_of x l ≡ true → strike x l ≡ gap (index_of x l) l
unfolding strike member_of index_of
strike_gap x [] h = clash h refl
strike_gap x (y ∷ ys) h = go (eqb y x) h (strike_gap x ys)
  where
    go : (t : Bool) → (t || member_of x ys) ≡ true → (member_of x ys ≡ true → strike x ys ≡ gap (index_of x ys) ys)
        → cond t ys (y ∷ strike x ys) ≡ gap (cond t 0 (suc (index_of x ys))) (y ∷ ys)
    go true h r = refl
    go false h r = ap {B = List ℕ} (λ (l : List ℕ). y ∷ l) (r h)

-- and in the array: the places up to the list's last are the list with the gap
pub take_removed : (n : ℕ) (a : List ℕ) (k : ℕ) → k < n → n ≤ length a → take (n - 1) (removed k a) ≡ gap k (take n a)
unfolding removed
take_removed zero a k h m = absurd (omega arith)
take_removed (suc n) [] k h m = absurd (omega arith)
take_removed (suc n) (y ∷ ys) zero h m =
    let e : suc n - 1 ≡ n = omega arith in
    rw e (take-append-le n ys (0 ∷ []) (omega arith))
take_removed (suc zero) (y ∷ ys) (suc k) h m = absurd (omega arith)
take_removed (suc (suc n)) (y ∷ ys) (suc k) h m =
    let e : suc (suc n) - 1 ≡ suc n = omega arith in
    let f : suc n - 1 ≡ n = omega arith in
    let r = take_removed (suc n) ys k (omega arith) (omega arith) in
    rw e (ap {B = List ℕ} (λ (l : List ℕ). y ∷ l) (rw f at r))
