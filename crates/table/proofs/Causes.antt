-- Causes: the test at a place of a walk, and that every change of the table keeps it.
use mathlib.Core.Path.{◌≡◌, refl}
use mathlib.Core.Bool.{Bool, true, false, cond, ◌&&◌}
use mathlib.Core.List.{List, [], ◌∷◌, ◌++◌}
use Prim.Native.Nat.{ℕ, zero, suc, ◌+◌, ◌≤◌, ◌<◌}
use native.Mathlib.Omega.{arith}
use borrow.Author.Tests.{le-leb, lt-ltb}
use lib.Dec.{leb, ltb}
use lib.ListN.{length, take, drop, get_or, set, length-set, drop_of_length-le}
use Rattle.geometry.specs.declared.Block.{Block}
use Rattle.lists.specs.Lists.{index_of}
use Rattle.logic.proofs.Bools.{and_left, and_right, and_true}
use Rattle.logic.proofs.Walks.{step}
use Rattle.std.proofs.lemmas.Grind.{take-set_at}
use Rattle.table.specs.declared.Table.{Table}
use Rattle.table.specs.Tables.{spare_list, causes_ok, causes_listed, causes_killed}
use Rattle.table.proofs.Arrays.{take_set}

pub causes_step : (t : Bool) (s : List ℕ) (i : ℕ) → i < length s → (t && leb (get_or s i 0) 3 && causes_ok (drop (i + 1) s)) ≡ (t && causes_ok (drop i s))
unfolding causes_ok
causes_step true s i h = rw (step s i h)
causes_step false s i h = refl

pub causes_end : (t : Bool) (s : List ℕ) (i : ℕ) → length s ≤ i → (t && causes_ok (drop i s)) ≡ t
unfolding causes_ok
causes_end true s i h = rw (drop_of_length-le s h)
causes_end false s i h = refl

pub ruleset gathering = (causes_step, causes_end)

-- A cause of at most 3 in place of another keeps the test,
pub set_ok : (l : List ℕ) (k c : ℕ) → causes_ok l ≡ true → c ≤ 3 → causes_ok (set l k c) ≡ true
unfolding causes_ok
set_ok [] k c h m = h
set_ok (x ∷ xs) zero c h m = and_true (leb c 3) (causes_ok xs) (le-leb c 3 m) (and_right (leb x 3) (causes_ok xs) h)
set_ok (x ∷ xs) (suc k) c h m = and_true (leb x 3) (causes_ok (set xs k c)) (and_left (leb x 3) (causes_ok xs) h) (set_ok xs k c (and_right (leb x 3) (causes_ok xs) h) m)

-- and so does one after the others.
pub snoc_ok : (l : List ℕ) (c : ℕ) → causes_ok l ≡ true → c ≤ 3 → causes_ok (l ++ (c ∷ [])) ≡ true
unfolding causes_ok
snoc_ok [] c h m = and_true (leb c 3) true (le-leb c 3 m) refl
snoc_ok (x ∷ xs) c h m =
    and_true (leb x 3) (causes_ok (xs ++ (c ∷ []))) (and_left (leb x 3) (causes_ok xs) h) (snoc_ok xs c (and_right (leb x 3) (causes_ok xs) h) m)

-- A MOVE AND A DEAD SPARE KEEP IT, where a spare was unused
pub listed_causes_ok : (t : Table) (b : Block) (live killed : ℕ) (cs : List ℕ) → t.nspares < 32 → length cs ≡ 32 → live ≤ 3 → killed ≤ 3
    → causes_ok (take t.nspares cs) ≡ true → causes_ok (take (t.nspares + 1) (causes_listed t b live killed cs)) ≡ true
unfolding causes_listed
listed_causes_ok t b live killed cs n e p q h =
    let k = index_of b.0 (spare_list t) in
    rw (lt-ltb t.nspares 32 n, take-set_at (set cs k killed) t.nspares _ live refl (simp length-set (omega arith)), take_set t.nspares cs k killed)
    (snoc_ok (set (take t.nspares cs) k killed) live (set_ok (take t.nspares cs) k killed h q) p)

pub killed_causes_ok : (t : Table) (c : ℕ) (cs : List ℕ) → t.nspares < 32 → length cs ≡ 32 → c ≤ 3
    → causes_ok (take t.nspares cs) ≡ true → causes_ok (take (t.nspares + 1) (causes_killed t c cs)) ≡ true
unfolding causes_killed
killed_causes_ok t c cs n e p h = rw (lt-ltb t.nspares 32 n, take-set_at cs t.nspares _ c refl (omega arith)) (snoc_ok (take t.nspares cs) c h p)

-- Neither changes how long the array is.
pub listed_causes_length : (t : Table) (b : Block) (live killed : ℕ) (cs : List ℕ) → length (causes_listed t b live killed cs) ≡ length cs
unfolding causes_listed
listed_causes_length t b live killed cs = go (ltb t.nspares 32)
  where
    go : (x : Bool) → length (cond x (set (set cs (index_of b.0 (spare_list t)) killed) t.nspares live) cs) ≡ length cs
    go true = simp length-set
    go false = refl

pub killed_causes_length : (t : Table) (c : ℕ) (cs : List ℕ) → length (causes_killed t c cs) ≡ length cs
unfolding causes_killed
killed_causes_length t c cs = go (ltb t.nspares 32)
  where
    go : (x : Bool) → length (cond x (set cs t.nspares c) cs) ≡ length cs
    go true = simp length-set
    go false = refl
