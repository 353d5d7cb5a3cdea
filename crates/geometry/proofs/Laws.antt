-- Homes, spares and the table's sector: no two are the same sector, and all are sectors.
use mathlib.Core.Path.{◌≡◌, refl, ap, ◌∙◌}
use mathlib.Core.Bool.{Bool, true, false, cond}
use Prim.Native.Nat.{ℕ, ◌+◌, ◌-◌, ◌≤◌, ◌<◌, ◌/◌}
use native.Mathlib.Omega.{arith}
use lib.Dec.{ltb}
use borrow.Author.Tests.{ltb-true, ltb-false, lt-ltb, le-ltb}
use Rattle.geometry.specs.Geometry.{is_block, is_sector, cylinder_of, home_of, spare_of, table_sector}
use Rattle.geometry.specs.declared.Block.{Block}
use Rattle.geometry.specs.declared.Sector.{Sector}

number : (s t : Sector) → s ≡ t → s.0 ≡ t.0
number s t e = ap (λ (x : Sector). x.0) e

-- a home by its two cases: the block's own number below 4928, else 64 more
data Home (n : ℕ) : ℕ → Type 0 where
  low : n < 4928 → Home n n
  high : 4928 ≤ n → Home n (n + 64)

cases : (b : Block) → Home b.0 (home_of b).0
unfolding home_of
cases b = go (ltb b.0 4928) refl
  where
    go : (t : Bool) → ltb b.0 4928 ≡ t → Home b.0 (cond t b.0 (b.0 + 64))
    go true e = low (ltb-true b.0 4928 e)
    go false e = high (ltb-false b.0 4928 e)

same_number : {m n h k : ℕ} → Home m h → Home n k → h ≡ k → m ≡ n
same_number (low p) (low q) e = e
same_number (low p) (high q) e = omega arith
same_number (high p) (low q) e = omega arith
same_number (high p) (high q) e = omega arith

outside : {n h : ℕ} → Home n h → h / 64 ≡ 77 → ⊥
outside (low p) e = omega arith
outside (high p) e = omega arith

in_range : {n h : ℕ} → Home n h → n < 9728 → h < 9792
in_range (low p) q = omega arith
in_range (high p) q = omega arith

-- HOMES ARE DISTINCT
pub home_apart : (b c : Block) → home_of b ≡ home_of c → b ≡ c
home_apart b c e =
    ap (λ (n : ℕ). let x : Block = record { 0 = n } in x) (same_number (cases b) (cases c) (number (home_of b) (home_of c) e))

-- "cylinder 77 is reserved": no home is in it, each spare and the table are
pub home_not_reserved : (b : Block) → cylinder_of (home_of b) ≡ 77 → ⊥
home_not_reserved b e = outside (cases b) e

pub spare_reserved : (k : ℕ) → k < 32 → cylinder_of (spare_of k) ≡ 77
spare_reserved k h = omega arith

pub table_reserved : cylinder_of table_sector ≡ 77
table_reserved = refl

-- NO HOME IS A SPARE OR THE TABLE
pub home_not_spare : (b : Block) (k : ℕ) → k < 32 → home_of b ≡ spare_of k → ⊥
home_not_spare b k h e = home_not_reserved b (ap cylinder_of e ∙ spare_reserved k h)

pub home_not_table : (b : Block) → home_of b ≡ table_sector → ⊥
home_not_table b e = home_not_reserved b (ap cylinder_of e)

-- NO SPARE IS THE TABLE, OR ANOTHER SPARE
pub spare_not_table : (k : ℕ) → k < 32 → spare_of k ≡ table_sector → ⊥
spare_not_table k h e = let q = number (spare_of k) table_sector e in omega arith

pub spare_apart : (j k : ℕ) → spare_of j ≡ spare_of k → j ≡ k
spare_apart j k e = let q = number (spare_of j) (spare_of k) e in omega arith

-- EVERY HOME AND SPARE IS A SECTOR
pub home_sector : (b : Block) → is_block b.0 ≡ true → is_sector (home_of b).0 ≡ true
home_sector b h = lt-ltb (home_of b).0 9792 (in_range (cases b) (ltb-true b.0 9728 h))

pub spare_sector : (k : ℕ) → k < 32 → is_sector (spare_of k).0 ≡ true
spare_sector k h = lt-ltb (4928 + k) 9792 (omega arith)

pub table_is_sector : is_sector table_sector.0 ≡ true
table_is_sector = refl

-- every sector outside the reserved cylinder is some block's home
pub home_onto : (s : Sector) → is_sector s.0 ≡ true → (cylinder_of s ≡ 77 → ⊥) → (b : Block) × (is_block b.0 ≡ true) × (home_of b ≡ s)
unfolding home_of
home_onto s h n = go (ltb s.0 4928) refl
  where
    small : s.0 < 9792
    small = ltb-true s.0 9792 h

    go : (t : Bool) → ltb s.0 4928 ≡ t → (b : Block) × (is_block b.0 ≡ true) × (home_of b ≡ s)
    go true e = (record { 0 = s.0 }, lt-ltb s.0 9728 (let p = ltb-true s.0 4928 e in omega arith), rw e)
    go false e =
        let p = ltb-false s.0 4928 e in
        let far : 4992 ≤ s.0 = omega arith in
        let back : s.0 - 64 + 64 ≡ s.0 = omega arith in
        (record { 0 = s.0 - 64 }, lt-ltb (s.0 - 64) 9728 (omega (arith, small)), rw (le-ltb (s.0 - 64) 4928 (omega arith), back))
