-- The tests of an image taken apart: what both forms share, form A, form B.
use mathlib.Core.Path.{◌≡◌, refl, ap, sym, ◌∙◌}
use mathlib.Core.Bool.{Bool, true, false, cond}
use mathlib.Core.List.{List}
use Prim.Native.Nat.{ℕ, ◌+◌, ◌-◌, ◌*◌, ◌≤◌}
use native.Mathlib.Omega.{arith}
use borrow.Author.Tests.{le-leb}
use lib.ListN.{length, take, drop}
use lib.Seq.{take-take}
use Rattle.lists.specs.Lists.{entries_ok}
use Rattle.table.specs.Tables.{causes_ok}
use Rattle.buffer.specs.Runs.{same, all_are}
use Rattle.buffer.proofs.Compare.{same_equal}
use Rattle.image.specs.declared.Layout.{Layout}
use Rattle.image.specs.Layouts.{spare_entries, bad_entries, counts_fit, entries_fit}
use Rattle.image.specs.FormA.{header, layout_a, has_header, framed_a, formed_a}
use Rattle.image.specs.FormB.{magic, two_at, has_magic, layout_b, cause_entries, sum_fits, framed_b, fields_fit, formed_b}
use Rattle.image.specs.Images.{well_formed, layout_of}

-- WHAT BOTH FORMS SHARE: lists that are not too long, of entries that are a table's
pub record Fits (a : Layout) (i : List ℕ) : Type 0 where
  pub few_spares : a.nspares ≤ 32
  pub few_bads : a.nbads ≤ 100
  pub spares : entries_ok true (spare_entries a i) ≡ true
  pub bads : entries_ok false (bad_entries a i) ≡ true

pub fits : (a : Layout) (i : List ℕ) → counts_fit a ≡ true → entries_fit a i ≡ true → Fits a i
unfolding entries_fit
fits a i c e = record { few_spares = grind (arith, c); few_bads = grind (arith, c); spares = grind (arith, e); bads = grind (arith, e) }

pub fit_counts : (a : Layout) (i : List ℕ) → Fits a i → counts_fit a ≡ true
fit_counts a i f = rw (le-leb a.nspares 32 f.few_spares) (le-leb a.nbads 100 f.few_bads)

pub fit_entries : (a : Layout) (i : List ℕ) → Fits a i → entries_fit a i ≡ true
unfolding entries_fit
fit_entries a i f = rw f.spares f.bads

-- FORM A: the frame, with counts of n and m, and the whole
pub record FrameA (i : List ℕ) (n m : ℕ) : Type 0 where
  pub head : same (take 24 i) header ≡ true
  pub first : all_are 0xFF (take 3 (drop (26 + 3 * n) i)) ≡ true
  pub second : all_are 0xFF (take 3 (drop (29 + 3 * n + 3 * m) i)) ≡ true
  pub zeros : all_are 0 (drop (32 + 3 * n + 3 * m) i) ≡ true

pub frame_a : (i : List ℕ) (n m : ℕ) → framed_a i n m ≡ true → FrameA i n m
unfolding framed_a
frame_a i n m h = record { head = grind (arith, h); first = grind (arith, h); second = grind (arith, h); zeros = grind (arith, h) }

pub record FormedA (i : List ℕ) : Type 0 where
  pub long : length i ≡ 532
  pub frame : FrameA i (layout_a i).nspares (layout_a i).nbads
  pub lists : Fits (layout_a i) i

-- all but the length
pub parts_a : (i : List ℕ) → formed_a i ≡ true → FrameA i (layout_a i).nspares (layout_a i).nbads × Fits (layout_a i) i
unfolding formed_a
parts_a i h = (frame_a i (layout_a i).nspares (layout_a i).nbads (grind (arith, h)), fits (layout_a i) i (grind (arith, h)) (grind (arith, h)))

pub formed_a_lem : (i : List ℕ) → well_formed i ≡ true → has_magic i ≡ false → FormedA i
unfolding well_formed
formed_a_lem i h b =
    let q = parts_a i (grind (arith, h, b)) in
    record { long = grind (arith, h); frame = q.0; lists = q.1 }

-- FORM B: the frame, with counts of n and m, and the whole
pub record FrameB (i : List ℕ) (n m : ℕ) : Type 0 where
  pub spare_offset : two_at i 10 ≡ 16
  pub bad_offset : two_at i 14 ≡ 16 + 4 * n
  pub zeros : all_are 0 (take (514 - 4 * n - 3 * m) (drop (16 + 4 * n + 3 * m) i)) ≡ true

pub frame_b : (i : List ℕ) (n m : ℕ) → framed_b i n m ≡ true → FrameB i n m
unfolding framed_b
frame_b i n m h = record { spare_offset = grind (arith, h); bad_offset = grind (arith, h); zeros = grind (arith, h) }

pub record FormedB (i : List ℕ) : Type 0 where
  pub long : length i ≡ 532
  pub magic : has_magic i ≡ true
  pub sum : sum_fits i ≡ true
  pub frame : FrameB i (layout_b i).nspares (layout_b i).nbads
  pub causes : causes_ok (cause_entries i) ≡ true
  pub lists : Fits (layout_b i) i

-- all between the first four bytes and the sum
pub parts_b : (i : List ℕ) → fields_fit i ≡ true
    → FrameB i (layout_b i).nspares (layout_b i).nbads × (causes_ok (cause_entries i) ≡ true) × Fits (layout_b i) i
unfolding fields_fit
parts_b i h =
    (frame_b i (layout_b i).nspares (layout_b i).nbads (grind (arith, h)), grind (arith, h), fits (layout_b i) i (grind (arith, h)) (grind (arith, h)))

pub formed_b_lem : (i : List ℕ) → well_formed i ≡ true → has_magic i ≡ true → FormedB i
unfolding well_formed formed_b
formed_b_lem i h b =
    let q = parts_b i (grind (arith, h, b)) in
    record { long = grind (arith, h); magic = b; sum = grind (arith, h, b); frame = q.0; causes = q.1; lists = q.2 }

-- AN IMAGE OF FORM A DOES NOT BEGIN AS FORM B
pub header_no_magic : (i : List ℕ) → has_header i ≡ true → has_magic i ≡ false
unfolding same
header_no_magic i h =
    let e = sym (take-take 4 24 i (omega arith)) ∙ ap (take 4) (same_equal (take 24 i) header h) in
    ap (λ (l : List ℕ). same l magic) e

pub a_not_b : (i : List ℕ) → formed_a i ≡ true → has_magic i ≡ false
a_not_b i h = header_no_magic i (parts_a i h).0.head

-- THE LAYOUT BY THE FORM, and what a well-formed image of either form has
pub layout_a_lem : (i : List ℕ) → has_magic i ≡ false → layout_of i ≡ layout_a i
layout_a_lem i b = rw b

pub layout_b_lem : (i : List ℕ) → has_magic i ≡ true → layout_of i ≡ layout_b i
layout_b_lem i b = rw b

pub formed_long : (i : List ℕ) → well_formed i ≡ true → length i ≡ 532
unfolding well_formed
formed_long i h = grind (arith, h)

pub read_fits : (i : List ℕ) → well_formed i ≡ true → Fits (layout_of i) i
read_fits i h = go (has_magic i) refl
  where
    go : (t : Bool) → has_magic i ≡ t → Fits (cond t (layout_b i) (layout_a i)) i
    go true b = (formed_b_lem i h b).lists
    go false b = (formed_a_lem i h b).lists
