-- What each change of a table does to its two lists, and that the arrays keep their lengths.
use mathlib.Core.Path.{◌≡◌, refl, ap, sym, ◌∙◌}
use mathlib.Core.Bool.{true}
use mathlib.Core.List.{List, [], ◌∷◌, ◌++◌}
use Prim.Native.Nat.{ℕ, ◌≤◌, ◌<◌}
use native.Mathlib.Omega.{arith}
use borrow.Author.Tests.{lt-ltb}
use lib.Dec.{ltb}
use lib.ListN.{length, set, length-set, length-take}
use lib.Seq.{length-take-le}
use Rattle.geometry.specs.declared.Block.{Block}
use Rattle.lists.specs.Lists.{dead, index_of, member_of, kill, strike}
use Rattle.logic.proofs.Bools.{branch}
use Rattle.lists.proofs.Laws.{index_in}
use Rattle.table.specs.Tables.{spare_list, bad_list, Shaped, listed, killed_next, with_bad, without_bad}
use Rattle.std.proofs.lemmas.Grind.{take-set_at}
use Rattle.table.specs.declared.Table.{Table}
use Rattle.table.proofs.Arrays.{take_set, strike_gap, take_removed, removed_length}

-- LISTING A BLOCK kills its old entry and puts it at the end of the spare list.
pub listed_spares : (t : Table) (b : Block) → Shaped t → t.nspares < 32 → spare_list (listed t b) ≡ kill b.0 (spare_list t) ++ (b.0 ∷ [])
unfolding listed kill
listed_spares t b s h =
    let a = set t.spares (index_of b.0 (spare_list t)) dead in
    let i : t.nspares < length a = omega (arith, s.0, length-set t.spares (index_of b.0 (spare_list t)) dead) in
    rw (lt-ltb t.nspares 32 h) (take-set_at a t.nspares _ b.0 refl i ∙ ap (λ (l : List ℕ). l ++ (b.0 ∷ [])) (take_set t.nspares t.spares (index_of b.0 (spare_list t)) dead))

-- KILLING THE NEXT UNUSED SPARE puts the dead mark there.
pub killed_spares : (t : Table) → Shaped t → t.nspares < 32 → spare_list (killed_next t) ≡ spare_list t ++ (dead ∷ [])
unfolding killed_next
killed_spares t s h = rw (lt-ltb t.nspares 32 h) (take-set_at t.spares t.nspares _ dead refl (omega (arith, s.0)))

-- ENTERING A BLOCK puts it at the end of the bad list.
pub entered_bads : (t : Table) (b : Block) → Shaped t → t.nbads < 100 → bad_list (with_bad t b) ≡ bad_list t ++ (b.0 ∷ [])
unfolding with_bad
entered_bads t b s h = rw (lt-ltb t.nbads 100 h) (take-set_at t.bads t.nbads _ b.0 refl (omega (arith, s.1)))

-- REMOVING A BLOCK takes it out of the bad list and keeps the order.
pub removed_bads : (t : Table) (b : Block) → Shaped t → t.nbads ≤ 100 → member_of b.0 (bad_list t) ≡ true → bad_list (without_bad t b) ≡ strike b.0 (bad_list t)
unfolding without_bad
removed_bads t b s n h =
    let i = index_in b.0 (bad_list t) h in
    let m : t.nbads ≤ length t.bads = omega (arith, s.1) in
    let k : index_of b.0 (bad_list t) < t.nbads = omega (arith, i.0, length-take-le t.nbads t.bads m) in
    rw h (take_removed t.nbads t.bads (index_of b.0 (bad_list t)) k m ∙ sym (strike_gap b.0 (bad_list t) h))

-- The bad list stays where the spare list changes, and the spare list where the bad list does.
pub listed_bads : (t : Table) (b : Block) → bad_list (listed t b) ≡ bad_list t
unfolding listed
listed_bads t b = branch (λ (u : Table). bad_list u ≡ bad_list t) (ltb t.nspares 32) (λ e. refl) (λ e. refl)

pub killed_bads : (t : Table) → bad_list (killed_next t) ≡ bad_list t
unfolding killed_next
killed_bads t = branch (λ (u : Table). bad_list u ≡ bad_list t) (ltb t.nspares 32) (λ e. refl) (λ e. refl)

pub entered_spares : (t : Table) (b : Block) → spare_list (with_bad t b) ≡ spare_list t
unfolding with_bad
entered_spares t b = branch (λ (u : Table). spare_list u ≡ spare_list t) (ltb t.nbads 100) (λ e. refl) (λ e. refl)

pub removed_spares : (t : Table) (b : Block) → spare_list (without_bad t b) ≡ spare_list t
unfolding without_bad
removed_spares t b = branch (λ (u : Table). spare_list u ≡ spare_list t) (member_of b.0 (bad_list t)) (λ e. refl) (λ e. refl)

-- Every change keeps the arrays' lengths.
pub listed_shaped : (t : Table) (b : Block) → Shaped t → Shaped (listed t b)
unfolding listed
listed_shaped t b s =
    branch (λ (u : Table). Shaped u) (ltb t.nspares 32) (λ e. (simp length-set s.0, s.1)) (λ e. s)

pub killed_shaped : (t : Table) → Shaped t → Shaped (killed_next t)
unfolding killed_next
killed_shaped t s = branch (λ (u : Table). Shaped u) (ltb t.nspares 32) (λ e. (simp length-set s.0, s.1)) (λ e. s)

pub entered_shaped : (t : Table) (b : Block) → Shaped t → Shaped (with_bad t b)
unfolding with_bad
entered_shaped t b s = branch (λ (u : Table). Shaped u) (ltb t.nbads 100) (λ e. (s.0, simp length-set s.1)) (λ e. s)

pub removed_shaped : (t : Table) (b : Block) → Shaped t → Shaped (without_bad t b)
unfolding without_bad
removed_shaped t b s =
    branch (λ (u : Table). Shaped u) (member_of b.0 (bad_list t))
    (λ e. (s.0, removed_length (index_of b.0 (bad_list t)) t.bads (place e) ∙ s.1))
    (λ e. s)
  where
    place : member_of b.0 (bad_list t) ≡ true → index_of b.0 (bad_list t) < length t.bads
    place e = omega (arith, (index_in b.0 (bad_list t) e).0, length-take t.nbads t.bads)
