-- The test of a list says what the statement says.
use mathlib.Core.Path.{◌≡◌, refl, sym}
use mathlib.Core.Logic.{◌⊎◌, inl, inr}
use mathlib.Core.Bool.{Bool, true, false, not, cond, ◌&&◌}
use mathlib.Core.List.{List, [], ◌∷◌}
use Prim.Native.Nat.{ℕ, zero, suc, ◌<◌}
use native.Mathlib.Omega.{arith}
use borrow.Author.Tests.{eq-eqb, eqb-true, not-true}
use lib.Dec.{eqb}
use lib.ListN.{length, get_or}
use Rattle.geometry.specs.Geometry.{is_block}
use Rattle.lists.specs.Lists.{dead, index_of, member_of, entry_ok, entries_ok, Entries}
use Rattle.logic.proofs.Bools.{clash, and_left, and_right, and_true}
use Rattle.lists.proofs.Laws.{block_live, new_beside, first_ok, rest_ok, index_in, member_at}

-- an entry that may be beside others: a block that is not among them, or the dead mark
pub data Beside (marks : Bool) (x : ℕ) (l : List ℕ) : Type 0 where
  block : is_block x ≡ true → member_of x l ≡ false → Beside marks x l
  mark : marks ≡ true → x ≡ dead → Beside marks x l

pub beside : (marks : Bool) (x : ℕ) (l : List ℕ) → entry_ok marks x l ≡ true → Beside marks x l
unfolding entry_ok
beside marks x l = go (eqb x dead) refl
  where
    go : (t : Bool) → eqb x dead ≡ t → cond t marks (is_block x && not (member_of x l)) ≡ true → Beside marks x l
    go true e h = mark h (eqb-true x dead e)
    go false e h = block (and_left (is_block x) (not (member_of x l)) h) (not-true (member_of x l) (and_right (is_block x) (not (member_of x l)) h))

from_beside : (marks : Bool) (x : ℕ) (l : List ℕ) → Beside marks x l → entry_ok marks x l ≡ true
unfolding entry_ok
from_beside marks x l (block b n) = new_beside marks x l b n
from_beside marks x l (mark m e) = rw (eq-eqb x dead e) m

first : {marks : Bool} {x : ℕ} {l : List ℕ} → Beside marks x l → (is_block x ≡ true) ⊎ ((marks ≡ true) × (x ≡ dead))
first (block b n) = inl b
first (mark m e) = inr (m, e)

new : {marks : Bool} {x : ℕ} {l : List ℕ} → Beside marks x l → is_block x ≡ true → member_of x l ≡ true → ⊥
new (block b n) c h = clash h n
new {x = x} (mark m e) c h = clash (eq-eqb x dead e) (block_live x c)

pub entries_hold : (marks : Bool) (l : List ℕ) → entries_ok marks l ≡ true → Entries marks l
unfolding entries_ok
entries_hold marks [] h = record { each = λ k p. absurd (omega arith); once = λ j k p q. absurd (omega arith) }
entries_hold marks (x ∷ xs) h =
    let s = beside marks x xs (first_ok marks x xs h) in
    let r = entries_hold marks xs (rest_ok marks x xs h) in
    record { each = each s r; once = once s r }
  where
    each : Beside marks x xs → Entries marks xs → (k : ℕ) → k < suc (length xs) → (is_block (get_or (x ∷ xs) k 0) ≡ true) ⊎ ((marks ≡ true) × (get_or (x ∷ xs) k 0 ≡ dead))
    each s r zero p = first s
    each s r (suc k) p = r.each k (omega arith)

    once : Beside marks x xs → Entries marks xs → (j k : ℕ) → j < k → k < suc (length xs) → is_block (get_or (x ∷ xs) j 0) ≡ true → get_or (x ∷ xs) j 0 ≡ get_or (x ∷ xs) k 0 → ⊥
    once s r zero zero p q b e = omega arith
    once s r zero (suc k) p q b e = new s b (member_at x xs k (omega arith) (sym e))
    once s r (suc j) zero p q b e = omega arith
    once s r (suc j) (suc k) p q b e = r.once j k (omega arith) (omega arith) b e

pub entries_pass : (marks : Bool) (l : List ℕ) → Entries marks l → entries_ok marks l ≡ true
unfolding entries_ok
entries_pass marks [] r = refl
entries_pass marks (x ∷ xs) r =
    and_true (entry_ok marks x xs) _ (from_beside marks x xs (go (r.each 0 (omega arith)) (member_of x xs) refl))
    (entries_pass marks xs (record { each = λ k p. r.each (suc k) (omega arith); once = λ j k p q. r.once (suc j) (suc k) (omega arith) (omega arith) }))
  where
    go : (is_block x ≡ true) ⊎ ((marks ≡ true) × (x ≡ dead)) → (t : Bool) → member_of x xs ≡ t → Beside marks x xs
    go (inr m) t e = mark m.0 m.1
    go (inl b) false e = block b e
    go (inl b) true e = let p = index_in x xs e in absurd (r.once 0 (suc (index_of x xs)) (omega arith) (omega (arith, p.0)) b (sym p.1))
