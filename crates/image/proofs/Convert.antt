-- The other form: it is well formed, keeps both lists, and has no run number and no causes; from A and back it is the same bytes.
use mathlib.Core.Path.{◌≡◌, refl, ap, sym, ◌∙◌}
use mathlib.Core.Bool.{Bool, true, false, not}
use mathlib.Core.List.{List, ◌∷◌, ◌++◌}
use Prim.Native.Nat.{ℕ, zero, suc, ◌≤◌, ◌<◌}
use native.Mathlib.Omega.{arith}
use lib.ListN.{length, take, drop, replicate, length-replicate}
use Rattle.lists.specs.Lists.{entries_ok}
use Rattle.table.specs.declared.Table.{Table}
use Rattle.table.specs.Tables.{spare_list, bad_list, Shaped, table_ok, causes_ok}
use Rattle.table.proofs.Keeps.{passes}
use Rattle.image.specs.declared.Layout.{Layout}
use Rattle.image.specs.Layouts.{spare_entries, bad_entries}
use Rattle.image.specs.FormA.{form_a, image_a, layout_a}
use Rattle.image.specs.FormB.{form_b, image_b, has_magic, layout_b}
use Rattle.image.specs.Images.{well_formed, layout_of, table_of, run_of, causes_of, converted}
use Rattle.image.proofs.Layouts.{Bytes, entries_length}
use Rattle.image.proofs.Formed.{Fits, formed_a_lem, formed_b_lem, layout_a_lem, layout_b_lem}
use Rattle.image.proofs.RoundTrip.{read_spares, read_bads, spares_few, bads_few}
use Rattle.image.proofs.RoundTripA.{form_a_magic, form_a_spares, form_a_bads, form_a_formed, form_a_rebuilt}
use Rattle.image.proofs.WrittenB.{form_b_magic, form_b_run, form_b_spares, form_b_bads, form_b_causes, form_b_formed}

count_a : (i : List ℕ) → has_magic i ≡ false → (table_of i).nspares ≡ (layout_a i).nspares
unfolding table_of
count_a i b = rw b

-- the other form by the form
to_a : (i : List ℕ) → has_magic i ≡ true → converted i ≡ form_a (spare_entries (layout_b i) i) (bad_entries (layout_b i) i)
unfolding converted
to_a i b = rw (b, read_spares i, read_bads i, b)

-- causes of zero
abbrev blank : ℕ → List ℕ
blank n = replicate n 0

blank_take : (n k : ℕ) → n ≤ k → take n (blank k) ≡ blank n
blank_take zero k h = refl
blank_take (suc n) zero h = absurd (omega arith)
blank_take (suc n) (suc k) h = ap {B = List ℕ} (λ (l : List ℕ). 0 ∷ l) (blank_take n k (omega arith))

to_b : (i : List ℕ) → well_formed i ≡ true → has_magic i ≡ false
    → converted i ≡ form_b 0 (spare_entries (layout_a i) i) (blank (layout_a i).nspares) (bad_entries (layout_a i) i)
unfolding converted
to_b i h b =
    let n : (table_of i).nspares ≡ (layout_a i).nspares = count_a i b in
    rw (b, read_spares i, read_bads i, b, n, blank_take (layout_a i).nspares 32 (formed_a_lem i h b).lists.few_spares)

blank_ok : (n : ℕ) → causes_ok (blank n) ≡ true
unfolding causes_ok
blank_ok zero = refl
blank_ok (suc n) = blank_ok n

blank_array : (n k : ℕ) → n ≤ k → blank n ++ drop n (blank k) ≡ blank k
blank_array zero k h = refl
blank_array (suc n) zero h = absurd (omega arith)
blank_array (suc n) (suc k) h = ap {B = List ℕ} (λ (l : List ℕ). 0 ∷ l) (blank_array n k (omega arith))

-- The lists of an image, by the layout, are not too long, and each entry has a cause of zero.
module _ (a : Layout) (i : List ℕ) (f : Fits a i) where
  few_s : length (spare_entries a i) ≤ 32
  few_s = let c = f.few_spares in omega (arith, entries_length a.width a.nspares (drop a.spares i))

  few_b : length (bad_entries a i) ≤ 100
  few_b = let c = f.few_bads in omega (arith, entries_length 3 a.nbads (drop a.bads i))

  as_many : length (blank a.nspares) ≡ length (spare_entries a i)
  as_many = length-replicate {A = ℕ} a.nspares 0 ∙ sym (entries_length a.width a.nspares (drop a.spares i))

-- THE OTHER FORM IS WELL FORMED,
pub converted_formed : (i : List ℕ) → well_formed i ≡ true → well_formed (converted i) ≡ true
converted_formed i h = go (has_magic i) refl
  where
    go : (t : Bool) → has_magic i ≡ t → well_formed (converted i) ≡ true
    go true b =
        let a = layout_b i in
        let f = (formed_b_lem i h b).lists in
        rw (to_a i b) (form_a_formed (spare_entries a i) (bad_entries a i) (few_s a i f) (few_b a i f) f.spares f.bads)
    go false b =
        let a = layout_a i in
        let f = (formed_a_lem i h b).lists in
        rw (to_b i h b)
        (form_b_formed 0 (spare_entries a i) (blank a.nspares) (bad_entries a i) (few_s a i f) (as_many a i f) (few_b a i f) f.spares f.bads (blank_ok a.nspares))

-- AND IT IS THE OTHER ONE.
pub other_form : (i : List ℕ) → well_formed i ≡ true → has_magic (converted i) ≡ not (has_magic i)
other_form i h = go (has_magic i) refl
  where
    go : (t : Bool) → has_magic i ≡ t → has_magic (converted i) ≡ not t
    go true b = rw (to_a i b) (form_a_magic (spare_entries (layout_b i) i) (bad_entries (layout_b i) i))
    go false b = rw (to_b i h b) (form_b_magic 0 (spare_entries (layout_a i) i) (blank (layout_a i).nspares) (bad_entries (layout_a i) i))

-- IT KEEPS BOTH LISTS,
lists_a : (sp bd : List ℕ) → entries_ok true sp ≡ true → entries_ok false bd ≡ true
    → (spare_entries (layout_of (form_a sp bd)) (form_a sp bd) ≡ sp) × (bad_entries (layout_of (form_a sp bd)) (form_a sp bd) ≡ bd)
lists_a sp bd s b = rw (layout_a_lem (form_a sp bd) (form_a_magic sp bd)) (form_a_spares sp bd s, form_a_bads sp bd b)

lists_b : (run : ℕ) (sp cs bd : List ℕ) → length sp ≤ 32 → length bd ≤ 100 → entries_ok true sp ≡ true → entries_ok false bd ≡ true
    → (spare_entries (layout_of (form_b run sp cs bd)) (form_b run sp cs bd) ≡ sp) × (bad_entries (layout_of (form_b run sp cs bd)) (form_b run sp cs bd) ≡ bd)
lists_b run sp cs bd n m s b =
    rw (layout_b_lem (form_b run sp cs bd) (form_b_magic run sp cs bd)) (form_b_spares run sp cs bd n s, form_b_bads run sp cs bd n m b)

pub converted_keeps : (i : List ℕ) → well_formed i ≡ true
    → (spare_entries (layout_of (converted i)) (converted i) ≡ spare_entries (layout_of i) i) × (bad_entries (layout_of (converted i)) (converted i) ≡ bad_entries (layout_of i) i)
converted_keeps i h = go (has_magic i) refl
  where
    go : (t : Bool) → has_magic i ≡ t
        → (spare_entries (layout_of (converted i)) (converted i) ≡ spare_entries (layout_of i) i) × (bad_entries (layout_of (converted i)) (converted i) ≡ bad_entries (layout_of i) i)
    go true b =
        let a = layout_b i in
        let f = (formed_b_lem i h b).lists in
        rw (to_a i b, layout_b_lem i b) (lists_a (spare_entries a i) (bad_entries a i) f.spares f.bads)
    go false b =
        let a = layout_a i in
        let f = (formed_a_lem i h b).lists in
        rw (to_b i h b, layout_a_lem i b) (lists_b 0 (spare_entries a i) (blank a.nspares) (bad_entries a i) (few_s a i f) (few_b a i f) f.spares f.bads)

-- AND NO RUN NUMBER AND NO CAUSES: from A to B they are zero, from B to A they are dropped.
blank_a : (sp bd : List ℕ) → (run_of (form_a sp bd) ≡ 0) × (causes_of (form_a sp bd) ≡ replicate 32 0)
unfolding run_of causes_of
blank_a sp bd = rw (form_a_magic sp bd) (refl, refl)

blank_b : (sp bd : List ℕ) (n : ℕ) → length sp ≤ 32 → n ≤ 32 → length (blank n) ≡ length sp
    → (run_of (form_b 0 sp (blank n) bd) ≡ 0) × (causes_of (form_b 0 sp (blank n) bd) ≡ replicate 32 0)
unfolding run_of causes_of
blank_b sp bd n p q e =
    rw (form_b_magic 0 sp (blank n) bd, form_b_run 0 sp (blank n) bd (omega arith), form_b_causes 0 sp (blank n) bd p e (blank_ok n), length-replicate {A = ℕ} n 0)
    (refl, blank_array n 32 q)

pub converted_blank : (i : List ℕ) → well_formed i ≡ true → (run_of (converted i) ≡ 0) × (causes_of (converted i) ≡ replicate 32 0)
converted_blank i h = go (has_magic i) refl
  where
    go : (t : Bool) → has_magic i ≡ t → (run_of (converted i) ≡ 0) × (causes_of (converted i) ≡ replicate 32 0)
    go true b = rw (to_a i b) (blank_a (spare_entries (layout_b i) i) (bad_entries (layout_b i) i))
    go false b =
        let a = layout_a i in
        let f = (formed_a_lem i h b).lists in
        rw (to_b i h b) (blank_b (spare_entries a i) (bad_entries a i) a.nspares (few_s a i f) f.few_spares (as_many a i f))

-- FORM B WRITTEN IN THE OTHER FORM IS FORM A OF THE SAME LISTS,
pub lists_converted : (run : ℕ) (sp cs bd : List ℕ) → length sp ≤ 32 → length bd ≤ 100 → entries_ok true sp ≡ true → entries_ok false bd ≡ true
    → converted (form_b run sp cs bd) ≡ form_a sp bd
lists_converted run sp cs bd n m s b =
    rw (to_a (form_b run sp cs bd) (form_b_magic run sp cs bd), form_b_spares run sp cs bd n s, form_b_bads run sp cs bd n m b)

pub image_converted : (run : ℕ) (t : Table) (cs : List ℕ) → run < 4294967296 → Shaped t → length cs ≡ 32 → table_ok t ≡ true
    → causes_ok (take t.nspares cs) ≡ true → converted (image_b run t cs) ≡ image_a t
image_converted run t cs r s l h c =
    let p = passes t h in
    lists_converted run (spare_list t) (take t.nspares cs) (bad_list t) (spares_few t s h) (bads_few t s h) p.spares p.bads

-- AND FROM A TO B AND BACK ARE THE SAME 532 BYTES.
pub a_to_b_to_a : (i : List ℕ) → Bytes i → well_formed i ≡ true → has_magic i ≡ false → converted (converted i) ≡ i
a_to_b_to_a i bytes h b =
    let a = layout_a i in
    let g = formed_a_lem i h b in
    let f = g.lists in
    rw (to_b i h b, lists_converted 0 (spare_entries a i) (blank a.nspares) (bad_entries a i) (few_s a i f) (few_b a i f) f.spares f.bads)
    (form_a_rebuilt i bytes g)
