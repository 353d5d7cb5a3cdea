-- Where a spare list puts the blocks: two never at one sector, and what each change moves.
use mathlib.Core.Path.{◌≡◌, refl, ap, sym, ◌∙◌}
use mathlib.Core.Bool.{Bool, true, false}
use mathlib.Core.List.{List, [], ◌∷◌, ◌++◌}
use Prim.Native.Nat.{ℕ, ◌≤◌, ◌<◌}
use native.Mathlib.Omega.{arith}
use borrow.Author.Tests.{ne_eqb}
use lib.Dec.{eqb}
use lib.ListN.{length, get_or}
use Rattle.geometry.specs.Geometry.{is_block, is_sector, home_of, spare_of, table_sector}
use Rattle.geometry.specs.declared.Block.{Block}
use Rattle.geometry.specs.declared.Sector.{Sector}
use Rattle.geometry.proofs.Laws.{home_apart, home_not_spare, home_not_table, spare_apart, spare_not_table, home_sector, spare_sector}
use Rattle.lists.specs.Lists.{dead, index_of, member_of, kill}
use Rattle.logic.proofs.Bools.{branch}
use Rattle.lists.proofs.Laws.{block_live, index_in, index_last, index_snoc, member_last, member_snoc, kill_index, kill_member, kill_gone, kill_length}
use Rattle.table.specs.Tables.{spare_list, Shaped, table_ok, sector_of, listed, killed_next, with_bad, without_bad}
use Rattle.table.specs.declared.Table.{Table}
use Rattle.table.proofs.Lists.{listed_spares, killed_spares, entered_spares, removed_spares}
use Rattle.table.proofs.Keeps.{passes}

-- a block's sector by its two cases
pub data Placed (l : List ℕ) (b : Block) : Sector → Type 0 where
  moved : index_of b.0 l < length l → get_or l (index_of b.0 l) 0 ≡ b.0 → Placed l b (spare_of (index_of b.0 l))
  home : Placed l b (home_of b)

pub placed : (l : List ℕ) (b : Block) → Placed l b (sector_of l b)
unfolding sector_of
placed l b = branch (Placed l b) (member_of b.0 l) (λ e. let p = index_in b.0 l e in moved p.0 p.1) (λ e. home)

same : (l : List ℕ) (b c : Block) {s r : Sector} → length l ≤ 32 → Placed l b s → Placed l c r → s ≡ r → b ≡ c
same l b c n (moved p q) (moved p' q') e =
    let k = spare_apart (index_of b.0 l) (index_of c.0 l) e in
    let m : b.0 ≡ c.0 = sym q ∙ ap (λ (i : ℕ). get_or l i 0) k ∙ q' in
    ap (λ (i : ℕ). let x : Block = record { 0 = i } in x) m
same l b c n (moved p q) home e = absurd (home_not_spare c (index_of b.0 l) (omega arith) (sym e))
same l b c n home (moved p q) e = absurd (home_not_spare b (index_of c.0 l) (omega arith) e)
same l b c n home home e = home_apart b c e

-- TWO BLOCKS NEVER HAVE THE SAME SECTOR
pub sectors_apart : (l : List ℕ) (b c : Block) → length l ≤ 32 → sector_of l b ≡ sector_of l c → b ≡ c
sectors_apart l b c n e = same l b c n (placed l b) (placed l c) e

-- AN UNUSED SPARE IS NO BLOCK'S SECTOR, and neither is the table's
at_spare_lem : (l : List ℕ) (b : Block) (k : ℕ) {s : Sector} → length l ≤ k → k < 32 → Placed l b s → s ≡ spare_of k → ⊥
at_spare_lem l b k n h (moved p q) e = let i = spare_apart (index_of b.0 l) k e in omega arith
at_spare_lem l b k n h home e = home_not_spare b k h e

pub unused_spare : (l : List ℕ) (b : Block) (k : ℕ) → length l ≤ k → k < 32 → sector_of l b ≡ spare_of k → ⊥
unused_spare l b k n h e = at_spare_lem l b k n h (placed l b) e

at_table : (l : List ℕ) (b : Block) {s : Sector} → length l ≤ 32 → Placed l b s → s ≡ table_sector → ⊥
at_table l b n (moved p q) e = spare_not_table (index_of b.0 l) (omega arith) e
at_table l b n home e = home_not_table b e

pub not_table : (l : List ℕ) (b : Block) → length l ≤ 32 → sector_of l b ≡ table_sector → ⊥
not_table l b n e = at_table l b n (placed l b) e

-- A BLOCK'S SECTOR IS A SECTOR
in_range : (l : List ℕ) (b : Block) {s : Sector} → length l ≤ 32 → is_block b.0 ≡ true → Placed l b s → is_sector s.0 ≡ true
in_range l b n i (moved p q) = spare_sector (index_of b.0 l) (omega arith)
in_range l b n i home = home_sector b i

pub sector_in_range : (l : List ℕ) (b : Block) → length l ≤ 32 → is_block b.0 ≡ true → is_sector (sector_of l b).0 ≡ true
sector_in_range l b n i = in_range l b n i (placed l b)

-- an entry at the end moves no block that it does not name
pub snoc_stays : (l : List ℕ) (x : ℕ) (c : Block) → eqb x c.0 ≡ false → sector_of (l ++ (x ∷ [])) c ≡ sector_of l c
unfolding sector_of
snoc_stays l x c n = go (member_of c.0 l) refl
  where
    go : (t : Bool) → member_of c.0 l ≡ t → sector_of (l ++ (x ∷ [])) c ≡ sector_of l c
    go true e = rw (member_snoc c.0 x l n, e, index_snoc c.0 x l e)
    go false e = rw (member_snoc c.0 x l n, e)

-- a block's entry killed moves no other block
pub kill_stays : (l : List ℕ) (x : ℕ) (c : Block) → is_block c.0 ≡ true → eqb x c.0 ≡ false → sector_of (kill x l) c ≡ sector_of l c
unfolding sector_of
kill_stays l x c i n = rw (kill_member x c.0 l i n, kill_index x c.0 l i n)

-- LISTING A BLOCK MOVES THAT BLOCK to the next unused spare,
pub listed_self : (t : Table) (b : Block) → Shaped t → is_block b.0 ≡ true → table_ok t ≡ true → t.nspares < 32 → sector_of (spare_list (listed t b)) b ≡ spare_of (length (spare_list t))
unfolding sector_of
listed_self t b s i h r =
    let g = kill_gone true b.0 (spare_list t) i (passes t h).spares in
    rw (listed_spares t b s r, member_last b.0 (kill b.0 (spare_list t)), index_last b.0 (kill b.0 (spare_list t)) g, kill_length b.0 (spare_list t))

-- AND NO OTHER.
pub listed_other : (t : Table) (b c : Block) → Shaped t → is_block c.0 ≡ true → (b.0 ≡ c.0 → ⊥) → t.nspares < 32 → sector_of (spare_list (listed t b)) c ≡ sector_of (spare_list t) c
listed_other t b c s i n r =
    let e = ne_eqb b.0 c.0 n in
    rw (listed_spares t b s r) (snoc_stays (kill b.0 (spare_list t)) b.0 c e ∙ kill_stays (spare_list t) b.0 c i e)

-- KILLING AN UNUSED SPARE MOVES NO BLOCK,
pub killed_stays : (t : Table) (c : Block) → Shaped t → is_block c.0 ≡ true → t.nspares < 32 → sector_of (spare_list (killed_next t)) c ≡ sector_of (spare_list t) c
killed_stays t c s i r = rw (killed_spares t s r) (snoc_stays (spare_list t) dead c (ne_eqb dead c.0 (λ q. clash_dead q)))
  where
    clash_dead : dead ≡ c.0 → ⊥
    clash_dead q = absurd (borrow.Author.Tests.eqb-false c.0 dead (block_live c.0 i) (sym q))

-- AND NEITHER DOES CHANGING THE BAD LIST.
pub entered_stays : (t : Table) (b c : Block) → sector_of (spare_list (with_bad t b)) c ≡ sector_of (spare_list t) c
entered_stays t b c = ap (λ (l : List ℕ). sector_of l c) (entered_spares t b)

pub removed_stays : (t : Table) (b c : Block) → sector_of (spare_list (without_bad t b)) c ≡ sector_of (spare_list t) c
removed_stays t b c = ap (λ (l : List ℕ). sector_of l c) (removed_spares t b)
