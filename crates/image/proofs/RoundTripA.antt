-- Form A: reading what was written gives the same table, writing what was read gives the same bytes.
use mathlib.Core.Path.{◌≡◌, refl, ap, sym, ◌∙◌}
use mathlib.Core.Bool.{true, false}
use mathlib.Core.List.{List, [], ◌∷◌, ◌++◌, append_assoc}
use Prim.Native.Nat.{ℕ, ◌+◌, ◌-◌, ◌*◌, ◌≤◌}
use native.Mathlib.Omega.{arith}
use borrow.Author.Tests.{eq-eqb, le-leb}
use lib.ListN.{length, take, drop, get_or, replicate, length-drop, take-append-drop}
use lib.Seq.{drop_at, drop-drop, take-add, drop-cons, length-take-le}
use Rattle.buffer.specs.Runs.{same, all_are}
use Rattle.buffer.proofs.Compare.{same_equal, same_refl, replicate_all}
use Rattle.lists.specs.Lists.{entries_ok}
use Rattle.table.specs.declared.Table.{Table}
use Rattle.table.specs.Tables.{spare_list, bad_list, SameTable, Shaped, table_ok}
use Rattle.table.proofs.Keeps.{passes}
use Rattle.image.specs.Layouts.{triples, spare_entries, bad_entries, counts_fit, entries_fit}
use Rattle.image.specs.FormA.{header, mark, list_part, framed_part, form_a, image_a, layout_a, framed_a, formed_a}
use Rattle.image.specs.FormB.{has_magic}
use Rattle.image.specs.Images.{well_formed, table_of}
use Rattle.image.proofs.Layouts.{Bytes, bytes_drop, triples_length, entries_length, entries_triples, triples_entries}
use Rattle.image.proofs.Writing.{framed_length, image_length}
use Rattle.image.proofs.Formed.{FormedA, formed_a_lem, layout_a_lem}
use Rattle.image.proofs.RoundTrip.{read_spares, read_bads, spares_few, bads_few, all_equal}

-- The parts of an image that was written, from its places on.
module _ (sp bd : List ℕ) where
  abbrev zeros : List ℕ
  zeros = replicate (532 - length (framed_part sp bd)) 0

  from_spares : drop 26 (form_a sp bd) ≡ triples sp ++ (mark ++ (triples bd ++ (mark ++ zeros)))
  unfolding form_a framed_part list_part
  from_spares = simp append_assoc

  from_mark : drop (26 + 3 * length sp) (form_a sp bd) ≡ mark ++ (triples bd ++ (mark ++ zeros))
  from_mark =
      sym (drop-drop (3 * length sp) 26 (form_a sp bd))
      ∙ ap (drop (3 * length sp)) from_spares
      ∙ drop_at (triples sp) (mark ++ (triples bd ++ (mark ++ zeros))) (3 * length sp) (triples_length sp)

  from_bads : drop (29 + 3 * length sp) (form_a sp bd) ≡ triples bd ++ (mark ++ zeros)
  from_bads =
      let e : 26 + 3 * length sp + 3 ≡ 29 + 3 * length sp = omega arith in
      ap (λ (k : ℕ). drop k (form_a sp bd)) (sym e) ∙ sym (drop-drop 3 (26 + 3 * length sp) (form_a sp bd)) ∙ ap (drop 3) from_mark

  from_second : drop (29 + 3 * length sp + 3 * length bd) (form_a sp bd) ≡ mark ++ zeros
  from_second =
      sym (drop-drop (3 * length bd) (29 + 3 * length sp) (form_a sp bd))
      ∙ ap (drop (3 * length bd)) from_bads
      ∙ drop_at (triples bd) (mark ++ zeros) (3 * length bd) (triples_length bd)

  from_zeros : drop (32 + 3 * length sp + 3 * length bd) (form_a sp bd) ≡ zeros
  from_zeros =
      let e : 29 + 3 * length sp + 3 * length bd + 3 ≡ 32 + 3 * length sp + 3 * length bd = omega arith in
      ap (λ (k : ℕ). drop k (form_a sp bd)) (sym e) ∙ sym (drop-drop 3 (29 + 3 * length sp + 3 * length bd) (form_a sp bd)) ∙ ap (drop 3) from_second

  head_written : take 24 (form_a sp bd) ≡ header
  unfolding form_a framed_part
  head_written = refl

  spares_counted : get_or (form_a sp bd) 24 0 ≡ length sp
  unfolding form_a framed_part
  spares_counted = refl

  bads_counted : get_or (form_a sp bd) 25 0 ≡ length bd
  unfolding form_a framed_part
  bads_counted = refl

  -- it does not begin as form B,
  pub form_a_magic : has_magic (form_a sp bd) ≡ false
  unfolding form_a framed_part same
  form_a_magic = refl

  framed_written : framed_a (form_a sp bd) (length sp) (length bd) ≡ true
  unfolding framed_a all_are
  framed_written =
      rw (head_written, same_refl header, from_mark, from_second, from_zeros)
      (replicate_all 0 (532 - length (framed_part sp bd)))

  -- its lists are those written,
  pub form_a_spares : entries_ok true sp ≡ true → spare_entries (layout_a (form_a sp bd)) (form_a sp bd) ≡ sp
  form_a_spares h = rw (spares_counted, from_spares) (entries_triples true sp (mark ++ (triples bd ++ (mark ++ zeros))) h)

  pub form_a_bads : entries_ok false bd ≡ true → bad_entries (layout_a (form_a sp bd)) (form_a sp bd) ≡ bd
  form_a_bads h = rw (spares_counted, bads_counted, from_bads) (entries_triples false bd (mark ++ zeros) h)

  -- and it is well formed.
  pub form_a_formed : length sp ≤ 32 → length bd ≤ 100 → entries_ok true sp ≡ true → entries_ok false bd ≡ true → well_formed (form_a sp bd) ≡ true
  unfolding well_formed formed_a entries_fit
  form_a_formed n m hs hb =
      let c : counts_fit (layout_a (form_a sp bd)) ≡ true = rw (spares_counted, bads_counted, le-leb (length sp) 32 n, le-leb (length bd) 100 m) in
      let f : framed_a (form_a sp bd) (get_or (form_a sp bd) 24 0) (get_or (form_a sp bd) 25 0) ≡ true = rw (spares_counted, bads_counted) framed_written in
      let s : entries_ok true (spare_entries (layout_a (form_a sp bd)) (form_a sp bd)) ≡ true = rw (form_a_spares hs) hs in
      let b : entries_ok false (bad_entries (layout_a (form_a sp bd)) (form_a sp bd)) ≡ true = rw (form_a_bads hb) hb in
      rw (eq-eqb (length (form_a sp bd)) 532 (image_length sp bd n m), form_a_magic, c, f, s) b

-- WHAT WAS WRITTEN IS WELL FORMED,
pub written_formed : (t : Table) → Shaped t → table_ok t ≡ true → well_formed (image_a t) ≡ true
written_formed t s h = let p = passes t h in form_a_formed (spare_list t) (bad_list t) (spares_few t s h) (bads_few t s h) p.spares p.bads

-- AND READING IT GIVES THE SAME TABLE
pub read_written : (t : Table) → Shaped t → table_ok t ≡ true → SameTable (table_of (image_a t)) t
read_written t s h =
    let p = passes t h in
    let e = layout_a_lem (image_a t) (form_a_magic (spare_list t) (bad_list t)) in (
      read_spares (image_a t) ∙ rw e (form_a_spares (spare_list t) (bad_list t) p.spares),
      read_bads (image_a t) ∙ rw e (form_a_bads (spare_list t) (bad_list t) p.bads),
    )

-- the two bytes of the counts
counts : (i : List ℕ) → 26 ≤ length i → take 2 (drop 24 i) ≡ get_or i 24 0 ∷ get_or i 25 0 ∷ []
counts i h = rw (drop-cons i 24 0 (omega arith), drop-cons i 25 0 (omega arith))

-- the mark at a place
run_at : (i : List ℕ) (k : ℕ) → k + 3 ≤ length i → all_are 0xFF (take 3 (drop k i)) ≡ true → take 3 (drop k i) ≡ mark
run_at i k h a = all_equal 0xFF 3 (take 3 (drop k i)) (length-take-le 3 (drop k i) (simp length-drop (omega arith))) a

-- all but the zeros of a well-formed image
module _ (i : List ℕ) (bytes : Bytes i) (f : FormedA i) where
  abbrev n : ℕ
  n = get_or i 24 0

  abbrev m : ℕ
  m = get_or i 25 0

  abbrev sp : List ℕ
  sp = spare_entries (layout_a i) i

  abbrev bd : List ℕ
  bd = bad_entries (layout_a i) i

  spares_part : take (3 * n) (drop 26 i) ≡ triples sp
  spares_part =
      let c = f.lists.few_spares in
      let l = f.long in
      sym (triples_entries true n (drop 26 i) (bytes_drop 26 i bytes) (simp length-drop (omega arith)) f.lists.spares)

  bads_part : take (3 * m) (drop (29 + 3 * n) i) ≡ triples bd
  bads_part =
      let c = f.lists.few_spares in
      let d = f.lists.few_bads in
      let l = f.long in
      sym (triples_entries false m (drop (29 + 3 * n) i) (bytes_drop (29 + 3 * n) i bytes) (simp length-drop (omega arith)) f.lists.bads)

  counted : List ℕ
  counted = length sp ∷ length bd ∷ []

  first_26 : take 26 i ≡ header ++ counted
  unfolding counted
  first_26 =
      rw (entries_length 3 n (drop 26 i), entries_length 3 m (drop (29 + 3 * n) i))
      (take-add 24 2 i ∙ rw (same_equal (take 24 i) header f.frame.head, counts i (omega (arith, f.long))))

  to_bads : take (29 + 3 * n) i ≡ header ++ counted ++ list_part sp
  unfolding list_part
  to_bads =
      let c = f.lists.few_spares in
      let e : 29 + 3 * n ≡ 26 + (3 * n + 3) = omega arith in
      let l = f.long in
      rw (e, take-add 26 (3 * n + 3) i, first_26, take-add (3 * n) 3 (drop 26 i), spares_part, drop-drop (3 * n) 26 i, run_at i (26 + 3 * n) (omega arith) f.frame.first)

  to_zeros : take (32 + 3 * n + 3 * m) i ≡ framed_part sp bd
  unfolding framed_part list_part counted
  to_zeros =
      let c = f.lists.few_spares in
      let d = f.lists.few_bads in
      let l = f.long in
      let a = 29 + 3 * n in
      let e : 32 + 3 * n + 3 * m ≡ a + (3 * m + 3) = omega arith in
      rw (e, take-add a (3 * m + 3) i, to_bads, take-add (3 * m) 3 (drop a i), bads_part, drop-drop (3 * m) a i, run_at i (a + 3 * m) (omega arith) f.frame.second)

  the_zeros : drop (32 + 3 * n + 3 * m) i ≡ replicate (532 - length (framed_part sp bd)) 0
  the_zeros =
      let c = f.lists.few_spares in
      let d = f.lists.few_bads in
      let l = f.long in
      let p = framed_length sp bd in
      let q = entries_length 3 n (drop 26 i) in
      let r = entries_length 3 m (drop (29 + 3 * n) i) in
      all_equal 0 (532 - length (framed_part sp bd)) (drop (32 + 3 * n + 3 * m) i) (simp length-drop (omega arith)) f.frame.zeros

  pub form_a_rebuilt : form_a (spare_entries (layout_a i) i) (bad_entries (layout_a i) i) ≡ i
  unfolding form_a
  form_a_rebuilt = rw (← the_zeros, ← to_zeros) (take-append-drop (32 + 3 * n + 3 * m) i)

-- WRITING WHAT WAS READ GIVES THE SAME 532 BYTES
pub written_read : (i : List ℕ) → Bytes i → well_formed i ≡ true → has_magic i ≡ false → image_a (table_of i) ≡ i
written_read i bytes h b = rw (read_spares i, read_bads i, layout_a_lem i b) (form_a_rebuilt i bytes (formed_a_lem i h b))
