-- Every change of a table keeps it well formed.
use mathlib.Core.Path.{◌≡◌, refl}
use mathlib.Core.Bool.{true, false, ◌&&◌}
use Prim.Native.Nat.{◌≤◌, ◌<◌}
use native.Mathlib.Omega.{arith}
use borrow.Author.Tests.{ltb-true, leb-true, le-leb}
use lib.Dec.{ltb, leb}
use Rattle.geometry.specs.Geometry.{is_block}
use Rattle.geometry.specs.declared.Block.{Block}
use Rattle.lists.specs.Lists.{dead, member_of, entries_ok, kill}
use Rattle.logic.proofs.Bools.{branch, and_left, and_right}
use Rattle.lists.proofs.Laws.{new_beside, dead_beside, entries_snoc, entries_kill, entries_strike, kill_gone}
use Rattle.table.specs.Tables.{spare_list, bad_list, Shaped, lists_ok, table_ok, empty_table, listed, killed_next, with_bad, without_bad}
use Rattle.table.specs.declared.Table.{Table}
use Rattle.table.proofs.Lists.{listed_spares, killed_spares, entered_bads, removed_bads}

-- a table that passes the test, part by part
pub record Passes (t : Table) : Type 0 where
  pub few_spares : t.nspares ≤ 32
  pub few_bads : t.nbads ≤ 100
  pub spares : entries_ok true (spare_list t) ≡ true
  pub bads : entries_ok false (bad_list t) ≡ true

pub passes : (t : Table) → table_ok t ≡ true → Passes t
unfolding lists_ok
passes t h =
    let a = leb t.nspares 32 in
    let b = leb t.nbads 100 in
    let s = entries_ok true (spare_list t) in
    let m = entries_ok false (bad_list t) in
    let counts = and_left (a && b) s (and_left (a && b && s) m h) in
    record { few_spares = leb-true t.nspares 32 (and_left a b counts); few_bads = leb-true t.nbads 100 (and_right a b counts); spares = and_right (a && b) s (and_left (a && b && s) m h); bads = and_right (a && b && s) m h }

pub passed : (t : Table) → Passes t → table_ok t ≡ true
unfolding lists_ok
passed t p = rw (le-leb t.nspares 32 p.few_spares, le-leb t.nbads 100 p.few_bads, p.spares) p.bads

pub empty_ok : table_ok empty_table ≡ true
unfolding lists_ok entries_ok
empty_ok = refl

-- LISTING A BLOCK
pub listed_ok : (t : Table) (b : Block) → Shaped t → is_block b.0 ≡ true → table_ok t ≡ true → table_ok (listed t b) ≡ true
unfolding listed
listed_ok t b s i h =
    branch (λ (u : Table). table_ok u ≡ true) (ltb t.nspares 32)
    (λ e. passed _ (record { few_spares = omega (arith, ltb-true t.nspares 32 e); few_bads = p.few_bads; spares = rw e at (more (ltb-true t.nspares 32 e)); bads = p.bads }))
    (λ e. h)
  where
    p : Passes t
    p = passes t h

    more : t.nspares < 32 → entries_ok true (spare_list (listed t b)) ≡ true
    more r =
        let k = entries_kill b.0 (spare_list t) p.spares in
        let g = kill_gone true b.0 (spare_list t) i p.spares in
        rw (listed_spares t b s r) (entries_snoc true (kill b.0 (spare_list t)) b.0 k (new_beside true b.0 (kill b.0 (spare_list t)) i g))

-- KILLING THE NEXT UNUSED SPARE
pub killed_ok : (t : Table) → Shaped t → table_ok t ≡ true → table_ok (killed_next t) ≡ true
unfolding killed_next
killed_ok t s h =
    branch (λ (u : Table). table_ok u ≡ true) (ltb t.nspares 32)
    (λ e. passed _ (record { few_spares = omega (arith, ltb-true t.nspares 32 e); few_bads = p.few_bads; spares = rw e at (more (ltb-true t.nspares 32 e)); bads = p.bads }))
    (λ e. h)
  where
    p : Passes t
    p = passes t h

    more : t.nspares < 32 → entries_ok true (spare_list (killed_next t)) ≡ true
    more r = rw (killed_spares t s r) (entries_snoc true (spare_list t) dead p.spares (dead_beside (spare_list t)))

-- ENTERING A BLOCK that is not in the bad list
pub entered_ok : (t : Table) (b : Block) → Shaped t → is_block b.0 ≡ true → member_of b.0 (bad_list t) ≡ false → table_ok t ≡ true → table_ok (with_bad t b) ≡ true
unfolding with_bad
entered_ok t b s i n h =
    branch (λ (u : Table). table_ok u ≡ true) (ltb t.nbads 100)
    (λ e. passed _ (record { few_spares = p.few_spares; few_bads = omega (arith, ltb-true t.nbads 100 e); spares = p.spares; bads = rw e at (more (ltb-true t.nbads 100 e)) }))
    (λ e. h)
  where
    p : Passes t
    p = passes t h

    more : t.nbads < 100 → entries_ok false (bad_list (with_bad t b)) ≡ true
    more r = rw (entered_bads t b s r) (entries_snoc false (bad_list t) b.0 p.bads (new_beside false b.0 (bad_list t) i n))

-- REMOVING A BLOCK
pub removed_ok : (t : Table) (b : Block) → Shaped t → table_ok t ≡ true → table_ok (without_bad t b) ≡ true
unfolding without_bad
removed_ok t b s h =
    branch (λ (u : Table). table_ok u ≡ true) (member_of b.0 (bad_list t))
    (λ e. passed _ (record { few_spares = p.few_spares; few_bads = omega (arith, p.few_bads); spares = p.spares; bads = rw e at (more e) }))
    (λ e. h)
  where
    p : Passes t
    p = passes t h

    more : member_of b.0 (bad_list t) ≡ true → entries_ok false (bad_list (without_bad t b)) ≡ true
    more e = rw (removed_bads t b s p.few_bads e) (entries_strike false b.0 (bad_list t) p.bads)
