-- What a well-formed image of either form holds. Its laws are those of the layout, which are stated once for both.
use mathlib.Core.Path.{◌≡◌, refl}
use mathlib.Core.Bool.{Bool, true, false, cond}
use mathlib.Core.List.{List}
use Prim.Native.Nat.{ℕ, zero, suc, ◌≤◌}
use native.Mathlib.Omega.{arith}
use borrow.Author.Tests.{leb-true}
use lib.Dec.{leb}
use lib.ListN.{length, take, drop, replicate, length-drop, length-append, length-replicate}
use lib.Seq.{take_at, length-take-le}
use Rattle.std.specs.Prelude.{is_ok}
use Rattle.logic.proofs.Bools.{and_left, and_right}
use Rattle.buffer.specs.Runs.{all_are}
use Rattle.buffer.proofs.Compare.{all_replicate}
use Rattle.table.specs.declared.Table.{Table}
use Rattle.table.specs.Tables.{spare_list, bad_list, Shaped, table_ok, causes_ok}
use Rattle.table.proofs.Keeps.{passes, passed}
use Rattle.image.specs.declared.Layout.{Layout}
use Rattle.image.specs.Layouts.{spare_entries, bad_entries, counts_fit, entries_fit, in_array, table_in}
use Rattle.image.specs.FormA.{layout_a}
use Rattle.image.specs.FormB.{has_magic, layout_b, cause_entries, causes_in}
use Rattle.image.specs.Images.{well_formed, layout_of, table_of, causes_of, read_of}
use Rattle.image.proofs.Layouts.{entries_length}
use Rattle.image.proofs.Reading.{causes_of_lem}
use Rattle.image.proofs.ReadingB.{causes_length}
use Rattle.image.proofs.Formed.{fits, fit_counts, fit_entries, formed_b_lem, formed_long, read_fits}

-- THE READER ANSWERS A TABLE EXACTLY WHEN THE IMAGE IS WELL FORMED
pub found_exactly : (i : List ℕ) → is_ok (read_of i) ≡ well_formed i
unfolding read_of
found_exactly i = grind arith

-- A SLICE OF ANOTHER LENGTH IS NO IMAGE
pub other_length : (i : List ℕ) → (length i ≡ 532 → ⊥) → well_formed i ≡ false
other_length i n = go (well_formed i) refl
  where
    go : (t : Bool) → well_formed i ≡ t → t ≡ false
    go true e = absurd (n (formed_long i e))
    go false e = refl

-- BY THE LAYOUT, WHATEVER THE FORM: the lists of the table are the entries of the image,
pub layout_spares : (a : Layout) (i : List ℕ) → spare_list (table_in a i) ≡ spare_entries a i
layout_spares a i =
    take_at (spare_entries a i) (drop (length (spare_entries a i)) (replicate 32 0)) a.nspares (entries_length a.width a.nspares (drop a.spares i))

pub layout_bads : (a : Layout) (i : List ℕ) → bad_list (table_in a i) ≡ bad_entries a i
layout_bads a i =
    take_at (bad_entries a i) (drop (length (bad_entries a i)) (replicate 100 0)) a.nbads (entries_length 3 a.nbads (drop a.bads i))

-- the table is well formed,
pub layout_ok : (a : Layout) (i : List ℕ) → counts_fit a ≡ true → entries_fit a i ≡ true → table_ok (table_in a i) ≡ true
layout_ok a i c e =
    let f = fits a i c e in
    passed (table_in a i) (record { few_spares = f.few_spares; few_bads = f.few_bads; spares = rw (layout_spares a i) f.spares; bads = rw (layout_bads a i) f.bads })

-- and its arrays are as long as they should be.
pub in_array_lem : (size : ℕ) (l : List ℕ) → length l ≤ size → length (in_array size l) ≡ size
in_array_lem size l h = omega (arith, length-append l (drop (length l) (replicate size 0)), length-drop {A = ℕ} (length l) (replicate size 0), length-replicate {A = ℕ} size 0)

pub layout_shaped : (a : Layout) (i : List ℕ) → counts_fit a ≡ true → Shaped (table_in a i)
layout_shaped a i c =
    let n = leb-true a.nspares 32 (and_left (leb a.nspares 32) (leb a.nbads 100) c) in
    let m = leb-true a.nbads 100 (and_right (leb a.nspares 32) (leb a.nbads 100) c) in (
      in_array_lem 32 (spare_entries a i) (omega (arith, n, entries_length a.width a.nspares (drop a.spares i))),
      in_array_lem 100 (bad_entries a i) (omega (arith, m, entries_length 3 a.nbads (drop a.bads i))),
    )

-- WHAT A WELL-FORMED IMAGE HOLDS
pub read_spares : (i : List ℕ) → spare_list (table_of i) ≡ spare_entries (layout_of i) i
unfolding table_of
read_spares i = layout_spares (layout_of i) i

pub read_bads : (i : List ℕ) → bad_list (table_of i) ≡ bad_entries (layout_of i) i
unfolding table_of
read_bads i = layout_bads (layout_of i) i

pub read_ok : (i : List ℕ) → well_formed i ≡ true → table_ok (table_of i) ≡ true
unfolding table_of
read_ok i h = let f = read_fits i h in layout_ok (layout_of i) i (fit_counts (layout_of i) i f) (fit_entries (layout_of i) i f)

pub read_shaped : (i : List ℕ) → well_formed i ≡ true → Shaped (table_of i)
unfolding table_of
read_shaped i h = layout_shaped (layout_of i) i (fit_counts (layout_of i) i (read_fits i h))

-- and its causes
pub zeros_ok : (n k : ℕ) → causes_ok (take n (replicate k 0)) ≡ true
unfolding causes_ok
zeros_ok zero k = refl
zeros_ok (suc n) zero = refl
zeros_ok (suc n) (suc k) = zeros_ok n k

pub causes_ok_lem : (i : List ℕ) → well_formed i ≡ true → causes_ok (take (table_of i).nspares (causes_of i)) ≡ true
unfolding table_of causes_of
causes_ok_lem i h = go (has_magic i) refl
  where
    go : (t : Bool) → has_magic i ≡ t → causes_ok (take (cond t (layout_b i) (layout_a i)).nspares (cond t (causes_in i) (replicate 32 0))) ≡ true
    go true b = rw (causes_of_lem i) (formed_b_lem i h b).causes
    go false b = zeros_ok (layout_a i).nspares 32

pub causes_shaped : (i : List ℕ) → well_formed i ≡ true → length (causes_of i) ≡ 32
unfolding causes_of
causes_shaped i h = go (has_magic i) refl
  where
    go : (t : Bool) → has_magic i ≡ t → length (cond t (causes_in i) (replicate 32 0)) ≡ 32
    go true b = in_array_lem 32 (cause_entries i) (omega (arith, causes_length (layout_b i).nspares (drop 16 i), (formed_b_lem i h b).lists.few_spares))
    go false b = refl

-- the lists of a well-formed table are not too long
pub spares_few : (t : Table) → Shaped t → table_ok t ≡ true → length (spare_list t) ≤ 32
spares_few t s h = omega (arith, length-take-le t.nspares t.spares (omega (arith, s.0, (passes t h).few_spares)), (passes t h).few_spares)

pub bads_few : (t : Table) → Shaped t → table_ok t ≡ true → length (bad_list t) ≤ 100
bads_few t s h = omega (arith, length-take-le t.nbads t.bads (omega (arith, s.1, (passes t h).few_bads)), (passes t h).few_bads)

-- Bytes that are all v are v so many times.
pub all_equal : (v k : ℕ) (l : List ℕ) → length l ≡ k → all_are v l ≡ true → l ≡ replicate k v
all_equal v k l e h = rw (← e) (all_replicate v l h)
