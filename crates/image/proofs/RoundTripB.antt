-- Form B: reading what was written gives the same table, run number and causes; writing what was read gives the same bytes.
use mathlib.Core.Path.{◌≡◌, ap, sym, ◌∙◌}
use mathlib.Core.Bool.{true, false}
use mathlib.Core.List.{List, ◌++◌}
use Prim.Native.Nat.{ℕ, ◌+◌, ◌-◌, ◌*◌, ◌%◌, ◌≤◌, ◌<◌}
use native.Mathlib.Omega.{arith}
use borrow.Author.Tests.{eqb-true}
use lib.ListN.{length, take, drop, replicate, length-drop, take-append-drop}
use lib.Seq.{take_at, take-add, take_all, length-take-le}
use Rattle.buffer.specs.Runs.{sum}
use Rattle.buffer.proofs.Compare.{same_equal}
use Rattle.table.specs.declared.Table.{Table}
use Rattle.table.specs.Tables.{spare_list, bad_list, SameTable, Shaped, table_ok, causes_ok}
use Rattle.table.proofs.Keeps.{passes}
use Rattle.image.specs.Layouts.{triples, spare_entries, bad_entries}
use Rattle.image.specs.FormB.{magic, two_bytes, four_bytes, head_b, quads, listed_part, summed_part, form_b, image_b, two_at, has_magic, run_in, layout_b, cause_entries, sum_fits}
use Rattle.image.specs.Images.{well_formed, table_of, run_of, causes_of}
use Rattle.image.proofs.Layouts.{Bytes, bytes_drop, entries_length, triples_entries}
use Rattle.image.proofs.Quads.{two_below, two_read, four_split, quads_entries}
use Rattle.image.proofs.Formed.{FormedB, formed_b_lem, layout_b_lem}
use Rattle.image.proofs.RoundTrip.{read_spares, read_bads, spares_few, bads_few, all_equal}
use Rattle.image.proofs.WritingB.{listed_length}
use Rattle.image.proofs.Reading.{causes_of_lem}
use Rattle.image.proofs.WrittenB.{form_b_magic, form_b_run, form_b_spares, form_b_bads, form_b_causes, form_b_formed}

-- An image written of a run number, a table and causes.
module _ (run : ℕ) (t : Table) (cs : List ℕ) where
  abbrev used : List ℕ
  used = take t.nspares cs

  abbrev written : List ℕ
  written = image_b run t cs

  -- as many causes as spare entries
  used_length : Shaped t → length cs ≡ 32 → table_ok t ≡ true → length used ≡ length (spare_list t)
  used_length s l h =
      let p = (passes t h).few_spares in
      length-take-le t.nspares cs (omega arith) ∙ sym (length-take-le t.nspares t.spares (omega (arith, s.0)))

  -- IT IS WELL FORMED,
  pub written_formed_b : run < 4294967296 → Shaped t → length cs ≡ 32 → table_ok t ≡ true → causes_ok (take t.nspares cs) ≡ true
      → well_formed (image_b run t cs) ≡ true
  written_formed_b r s l h c =
      let p = passes t h in
      form_b_formed run (spare_list t) used (bad_list t) (spares_few t s h) (used_length s l h) (bads_few t s h) p.spares p.bads c

  -- the table comes back whatever run number and causes are,
  pub table_back : Shaped t → table_ok t ≡ true → SameTable (table_of (image_b run t cs)) t
  table_back s h =
      let p = passes t h in
      let e = layout_b_lem written (form_b_magic run (spare_list t) used (bad_list t)) in (
        read_spares written ∙ rw e (form_b_spares run (spare_list t) used (bad_list t) (spares_few t s h) p.spares),
        read_bads written ∙ rw e (form_b_bads run (spare_list t) used (bad_list t) (spares_few t s h) (bads_few t s h) p.bads),
      )

  run_back : run < 4294967296 → run_of written ≡ run
  unfolding run_of
  run_back r = rw (form_b_magic run (spare_list t) used (bad_list t)) (form_b_run run (spare_list t) used (bad_list t) r)

  causes_back : Shaped t → length cs ≡ 32 → table_ok t ≡ true → causes_ok used ≡ true → take t.nspares (causes_of written) ≡ used
  unfolding causes_of
  causes_back s l h c =
      let p = (passes t h).few_spares in
      rw (form_b_magic run (spare_list t) used (bad_list t), form_b_causes run (spare_list t) used (bad_list t) (spares_few t s h) (used_length s l h) c)
      (take_at used (drop (length used) (replicate 32 0)) t.nspares (length-take-le t.nspares cs (omega arith)))

  -- AND READING IT GIVES THE SAME TABLE, RUN NUMBER AND CAUSES
  pub read_written_b : run < 4294967296 → Shaped t → length cs ≡ 32 → table_ok t ≡ true → causes_ok (take t.nspares cs) ≡ true
      → SameTable (table_of (image_b run t cs)) t × (run_of (image_b run t cs) ≡ run) × (take t.nspares (causes_of (image_b run t cs)) ≡ take t.nspares cs)
  read_written_b r s l h c = (table_back s h, run_back r, causes_back s l h c)

-- An image that is read, part by part.
module _ (i : List ℕ) (bytes : Bytes i) (f : FormedB i) where
  abbrev k : ℕ
  k = (layout_b i).nspares

  abbrev j : ℕ
  j = (layout_b i).nbads

  abbrev sps : List ℕ
  sps = spare_entries (layout_b i) i

  abbrev bds : List ℕ
  bds = bad_entries (layout_b i) i

  spares_part : take (4 * k) (drop 16 i) ≡ quads sps (cause_entries i)
  spares_part =
      let c = f.lists.few_spares in
      let l = f.long in
      sym (quads_entries true k (drop 16 i) (bytes_drop 16 i bytes) (simp length-drop (omega arith)) f.lists.spares)

  bads_part : take (3 * j) (drop (16 + 4 * k) i) ≡ triples bds
  bads_part =
      let c = f.lists.few_spares in
      let d = f.lists.few_bads in
      let l = f.long in
      sym (triples_entries false j (drop (16 + 4 * k) i) (bytes_drop (16 + 4 * k) i bytes) (simp length-drop (omega arith)) f.lists.bads)

  pair : (at : ℕ) → at + 2 ≤ 532 → take (at + 2) i ≡ take at i ++ two_bytes (two_at i at)
  pair at h = take-add at 2 i ∙ ap (λ (l : List ℕ). take at i ++ l) (sym (two_read i at bytes (omega (arith, f.long))))

  first_8 : take 8 i ≡ magic ++ four_bytes (run_in i)
  first_8 =
      rw (pair 6 (omega arith), pair 4 (omega arith), same_equal (take 4 i) magic f.magic, four_split (two_at i 4) (two_at i 6) (two_below i 6 bytes))

  first_16 : take 16 i ≡ head_b (run_in i) (length sps) (length bds)
  unfolding head_b
  first_16 =
      let p = entries_length 4 k (drop 16 i) in
      let q = entries_length 3 j (drop (16 + 4 * k) i) in
      let a = pair 8 (omega arith) in
      let b = pair 10 (omega arith) in
      let c = pair 12 (omega arith) in
      let d = pair 14 (omega arith) in
      rw (p, q, d, c, b, a, first_8, f.frame.spare_offset, f.frame.bad_offset)

  to_zeros : take (16 + 4 * k + 3 * j) i ≡ listed_part (run_in i) sps (cause_entries i) bds
  unfolding listed_part
  to_zeros =
      rw (take-add (16 + 4 * k) (3 * j) i, take-add 16 (4 * k) i, bads_part, spares_part, first_16)

  to_sum : take 530 i ≡ summed_part (run_in i) sps (cause_entries i) bds
  unfolding summed_part
  to_sum =
      let c = f.lists.few_spares in
      let d = f.lists.few_bads in
      let l = f.long in
      let z = 16 + 4 * k + 3 * j in
      let r = 514 - 4 * k - 3 * j in
      let e : 530 ≡ z + r = omega arith in
      let p = listed_length (run_in i) sps (cause_entries i) bds in
      let q = entries_length 4 k (drop 16 i) in
      let w = entries_length 3 j (drop (16 + 4 * k) i) in
      let g : 530 - length (listed_part (run_in i) sps (cause_entries i) bds) ≡ r = omega arith in
      let t = all_equal 0 r (take r (drop z i)) (length-take-le r (drop z i) (simp length-drop (omega arith))) f.frame.zeros in
      ap (λ (x : ℕ). take x i) e ∙ take-add z r i ∙ rw (t, to_zeros, g)

  pub form_b_rebuilt : form_b (run_in i) (spare_entries (layout_b i) i) (cause_entries i) (bad_entries (layout_b i) i) ≡ i
  unfolding form_b sum_fits
  form_b_rebuilt =
      let l = f.long in
      let s = eqb-true (two_at i 530) (sum (take 530 i) % 65536) f.sum in
      let e = two_read i 530 bytes (omega arith) ∙ take_all 2 (drop 530 i) (simp length-drop (omega arith)) in
      rw (← to_sum, ← s, e) (take-append-drop 530 i)

-- the run number and the causes of an image of form B
run_read : (i : List ℕ) → has_magic i ≡ true → run_of i ≡ run_in i
unfolding run_of
run_read i b = rw b

pub causes_read : (i : List ℕ) → has_magic i ≡ true → take (table_of i).nspares (causes_of i) ≡ cause_entries i
unfolding table_of causes_of
causes_read i b = rw b (causes_of_lem i)

-- WRITING WHAT WAS READ, IN ITS OWN FORM, GIVES THE SAME 532 BYTES
pub written_read_b : (i : List ℕ) → Bytes i → well_formed i ≡ true → has_magic i ≡ true → image_b (run_of i) (table_of i) (causes_of i) ≡ i
written_read_b i bytes h b =
    rw (run_read i b, read_spares i, read_bads i, causes_read i b, layout_b_lem i b) (form_b_rebuilt i bytes (formed_b_lem i h b))
