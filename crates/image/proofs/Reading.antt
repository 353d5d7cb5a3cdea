-- The lists and the causes that the reader loads, each at the start of its array.
use mathlib.Core.Path.{◌≡◌}
use mathlib.Core.Bool.{cond}
use mathlib.Core.List.{List, ◌++◌}
use Prim.Native.Nat.{ℕ, ◌≤◌}
use borrow.Author.Tests.{le-leb}
use lib.ListN.{length, take, drop, replicate}
use lib.Seq.{take_at}
use Rattle.std.specs.Prelude.{Some, None}
use Rattle.table.specs.Tables.{lists_ok}
use Rattle.image.specs.declared.Layout.{Layout}
use Rattle.image.specs.Layouts.{spare_entries, bad_entries, entries_fit}
use Rattle.image.specs.FormB.{layout_b, causes_from, cause_entries, causes_in}
use Rattle.image.specs.Images.{loaded}
use Rattle.image.proofs.Layouts.{entries_length}
use Rattle.image.proofs.ReadingB.{causes_length}

-- the lists of an image, at the start of their arrays
abbrev pub spares_in : List ℕ → Layout → List ℕ
spares_in i a = spare_entries a i ++ drop a.nspares (replicate 32 0)

abbrev pub bads_in : List ℕ → Layout → List ℕ
bads_in i a = bad_entries a i ++ drop a.nbads (replicate 100 0)

-- what was loaded, by the table's test of the arrays
pub loaded_test : (i : List ℕ) (a : Layout) → a.nspares ≤ 32 → a.nbads ≤ 100
    → loaded i a
    ≡ cond (lists_ok (spares_in i a) a.nspares (bads_in i a) a.nbads) (Some (record { spares = spares_in i a; bads = bads_in i a; nspares = a.nspares; nbads = a.nbads })) None
unfolding loaded lists_ok entries_fit
loaded_test i a hn hm =
    let es = entries_length a.width a.nspares (drop a.spares i) in
    let eb = entries_length 3 a.nbads (drop a.bads i) in
    rw (
      le-leb a.nspares 32 hn,
      le-leb a.nbads 100 hm,
      take_at (spare_entries a i) (drop a.nspares (replicate 32 0)) a.nspares es,
      take_at (bad_entries a i) (drop a.nbads (replicate 100 0)) a.nbads eb,
      es,
      eb,
    )

-- the causes in their array, and their list in it
pub causes_in_lem : (i : List ℕ) → causes_from (layout_b i).nspares (drop 16 i) ++ drop (layout_b i).nspares (replicate 32 0) ≡ causes_in i
causes_in_lem i = rw (causes_length (layout_b i).nspares (drop 16 i))

pub causes_of_lem : (i : List ℕ) → take (layout_b i).nspares (causes_in i) ≡ cause_entries i
causes_of_lem i =
    take_at (cause_entries i) (drop (length (cause_entries i)) (replicate 32 0)) (layout_b i).nspares (causes_length (layout_b i).nspares (drop 16 i))
