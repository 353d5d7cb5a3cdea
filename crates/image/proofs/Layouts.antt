-- Entries of three bytes: a list written, and read with its entries any number of bytes apart.
use mathlib.Core.Path.{◌≡◌, refl, ap, sym, ◌∙◌}
use mathlib.Core.Bool.{Bool, true, false, cond}
use mathlib.Core.List.{List, [], ◌∷◌, ◌++◌}
use Prim.Native.Nat.{ℕ, zero, suc, ◌+◌, ◌*◌, ◌/◌, ◌%◌, ◌≤◌, ◌<◌}
use native.Mathlib.Omega.{arith}
use borrow.Author.Tests.{eq-eqb, ne_eqb, eqb-true, ltb-true}
use lib.Dec.{eqb}
use lib.ListN.{length, take, drop, get_or, set}
use lib.Seq.{get_or-drop, drop-cons, set_at, append_snoc, take-suc, length-take-le}
use Rattle.geometry.specs.Geometry.{is_block}
use Rattle.logic.proofs.Bools.{clash}
use Rattle.lists.specs.Lists.{dead, entry_ok, entries_ok}
use Rattle.lists.proofs.Laws.{block_live, first_ok, rest_ok}
use Rattle.lists.proofs.Meaning.{Beside, beside}
use native.Mathlib.Numerals.{add-one}
use Rattle.buffer.specs.Runs.{over, sum}
use Rattle.buffer.proofs.Over.{over_over}
use Rattle.buffer.proofs.Sums.{sum_append}
use Rattle.image.specs.Layouts.{wide, triple, triples, narrow, entry_at, entries_from}

-- A product grows with its second number.
pub mul_none : (w : ℕ) → w * 0 ≡ 0
mul_none w = omega arith

pub mul_next : (w n : ℕ) → w * suc n ≡ w + w * n
mul_next w n = omega arith

pub triples_length : (l : List ℕ) → length (triples l) ≡ 3 * length l
unfolding triples triple
triples_length [] = refl
triples_length (x ∷ xs) = omega (arith, triples_length xs)

pub triples_snoc : (l : List ℕ) (x : ℕ) → triples (l ++ (x ∷ [])) ≡ triples l ++ triple x
unfolding triples triple
triples_snoc [] x = refl
triples_snoc (y ∷ ys) x = ap {B = List ℕ} (λ (l : List ℕ). triple y ++ l) (triples_snoc ys x)

pub entries_length : (w n : ℕ) (s : List ℕ) → length (entries_from w n s) ≡ n
unfolding entries_from
entries_length w zero s = refl
entries_length w (suc n) s = ap suc (entries_length w n (drop w s))

-- an entry past the first bytes
pub entry_drop : (n : ℕ) (s : List ℕ) (k : ℕ) → entry_at (drop n s) k ≡ entry_at s (n + k)
unfolding entry_at
entry_drop n s k =
    let p : n + (k + 1) ≡ n + k + 1 = omega arith in
    let q : n + (k + 2) ≡ n + k + 2 = omega arith in
    rw (get_or-drop n s k 0, get_or-drop n s (k + 1) 0, get_or-drop n s (k + 2) 0, p, q)

pub entries_snoc : (w n : ℕ) (s : List ℕ) → entries_from w (suc n) s ≡ entries_from w n s ++ (entry_at s (w * n) ∷ [])
unfolding entries_from
entries_snoc w zero s = ap {B = List ℕ} (λ (k : ℕ). entry_at s k ∷ []) (sym (mul_none w))
entries_snoc w (suc n) s =
    let d = entry_drop w s (w * n) ∙ ap (entry_at s) (sym (mul_next w n)) in
    ap {B = List ℕ} (λ (l : List ℕ). entry_at s 0 ∷ l) (entries_snoc w n (drop w s) ∙ ap {B = List ℕ} (λ (x : ℕ). entries_from w n (drop w s) ++ (x ∷ [])) d)

-- an entry stored after those at the start of an array
pub store_step : (xs o : List ℕ) (k x : ℕ) → length xs ≡ k → k < length o → set (xs ++ drop k o) k x ≡ xs ++ (x ∷ []) ++ drop (suc k) o
store_step xs o k x e h = rw (drop-cons o k 0 h, set_at xs (get_or o k 0) (drop (suc k) o) x k e) (sym (append_snoc xs x (drop (suc k) o)))

-- an entry written after those before it
pub written_step : (at : ℕ) (l o : List ℕ) (k : ℕ) → k < length l → at + 3 * k ≤ length o
    → over (at + 3 * k) (triple (get_or l k 0)) (over at (triples (take k l)) o) ≡ over at (triples (take (suc k) l)) o
written_step at l o k h m =
    let n = triples_length (take k l) in
    let t = length-take-le k l (omega arith) in
    rw (take-suc l k 0 h, triples_snoc (take k l) (get_or l k 0)) (over_over at (triples (take k l)) (triple (get_or l k 0)) o (at + 3 * k) (omega (arith, n, t)) m)

-- and the sum of its bytes added to theirs
pub summed_step : (l : List ℕ) (k : ℕ) → k < length l → sum (triples (take k l)) + sum (triple (get_or l k 0)) ≡ sum (triples (take (k + 1) l))
summed_step l k h = rw (add-one, take-suc l k 0 h, triples_snoc (take k l) (get_or l k 0)) (sym (sum_append (triples (take k l)) (triple (get_or l k 0))))

-- what every byte of a Rattle slice is
abbrev pub Bytes : List ℕ → Type 0
Bytes s = (k : ℕ) → get_or s k 0 < 256

pub bytes_drop : (n : ℕ) (s : List ℕ) → Bytes s → Bytes (drop n s)
bytes_drop n s h k = rw (get_or-drop n s k 0) (h (n + k))

-- An entry widened is below 2^24, and narrowed again it is the entry.
pub wide_small : (marks : Bool) (x : ℕ) (l : List ℕ) → Beside marks x l → wide x < 16777216
unfolding wide
wide_small marks x l (Beside.block b n) = rw (block_live x b) (let p = ltb-true x 9728 b in omega arith)
wide_small marks x l (Beside.mark m e) = rw (eq-eqb x dead e) (omega arith)

narrow_block : (v : ℕ) → is_block v ≡ true → narrow v ≡ v
unfolding narrow
narrow_block v b = let p = ltb-true v 9728 b in rw (ne_eqb v 16777214 (λ q. omega arith), b)

pub narrow_wide : (marks : Bool) (x : ℕ) (l : List ℕ) → Beside marks x l → narrow (wide x) ≡ x
unfolding wide narrow
narrow_wide marks x l (Beside.block b n) = rw (block_live x b) (narrow_block x b)
narrow_wide marks x l (Beside.mark m e) = rw (eq-eqb x dead e) (sym e)

pub three : (v : ℕ) → v < 16777216 → v / 65536 % 256 * 65536 + v / 256 % 256 * 256 + v % 256 ≡ v
three v h = omega arith

-- A LIST WRITTEN READS AS ITSELF
pub entries_triples : (marks : Bool) (l r : List ℕ) → entries_ok marks l ≡ true → entries_from 3 (length l) (triples l ++ r) ≡ l
unfolding entries_from triples triple entry_at entries_ok
entries_triples marks [] r h = refl
entries_triples marks (x ∷ xs) r h =
    let s = beside marks x xs (first_ok marks x xs h) in
    let e : narrow (wide x / 65536 % 256 * 65536 + wide x / 256 % 256 * 256 + wide x % 256) ≡ x = rw (three (wide x) (wide_small marks x xs s)) (narrow_wide marks x xs s) in
    rw e (ap {B = List ℕ} (λ (l : List ℕ). x ∷ l) (entries_triples marks xs r (rest_ok marks x xs h)))

-- A number that narrows to an entry widens again to itself.
no_entry : (marks : Bool) (l : List ℕ) → entry_ok marks 65535 l ≡ true → ⊥
unfolding entry_ok
no_entry marks l h = clash h refl

pub wide_narrow : (marks : Bool) (v : ℕ) (l : List ℕ) → entry_ok marks (narrow v) l ≡ true → wide (narrow v) ≡ v
unfolding narrow wide
wide_narrow marks v l = go (eqb v 16777214) refl (is_block v) refl
  where
    go : (p : Bool) → eqb v 16777214 ≡ p → (q : Bool) → is_block v ≡ q → entry_ok marks (cond p dead (cond q v 65535)) l ≡ true → wide (cond p dead (cond q v 65535)) ≡ v
    go true p q r h = sym (eqb-true v 16777214 p)
    go false p true r h = rw (block_live v r)
    go false p false r h = absurd (no_entry marks l h)

pub high : (x y w : ℕ) → x < 256 → y < 256 → w < 256 → (x * 65536 + y * 256 + w) / 65536 % 256 ≡ x
high x y w p q r = omega arith

pub middle : (x y w : ℕ) → x < 256 → y < 256 → w < 256 → (x * 65536 + y * 256 + w) / 256 % 256 ≡ y
middle x y w p q r = omega arith

pub low : (x y w : ℕ) → x < 256 → y < 256 → w < 256 → (x * 65536 + y * 256 + w) % 256 ≡ w
low x y w p q r = omega arith

-- A LIST READ IS WRITTEN AS THE BYTES IT CAME FROM
pub triples_entries : (marks : Bool) (n : ℕ) (s : List ℕ) → Bytes s → 3 * n ≤ length s → entries_ok marks (entries_from 3 n s) ≡ true → triples (entries_from 3 n s) ≡ take (3 * n) s
unfolding entries_from triples triple entry_at entries_ok
triples_entries marks zero s b m h = refl
triples_entries marks (suc n) [] b m h = absurd (omega arith)
triples_entries marks (suc n) (x ∷ []) b m h = absurd (omega arith)
triples_entries marks (suc n) (x ∷ y ∷ []) b m h = absurd (omega arith)
triples_entries marks (suc n) (x ∷ y ∷ w ∷ s) b m h =
    let v = x * 65536 + y * 256 + w in
    let rest = entries_from 3 n s in
    let e = wide_narrow marks v rest (first_ok marks (narrow v) rest h) in
    let k : 3 * suc n ≡ suc (suc (suc (3 * n))) = omega arith in
    let t = triples_entries marks n s (λ j. b (suc (suc (suc j)))) (omega arith) (rest_ok marks (narrow v) rest h) in
    rw (e, k, high x y w (b 0) (b 1) (b 2), middle x y w (b 0) (b 1) (b 2), low x y w (b 0) (b 1) (b 2), t)
