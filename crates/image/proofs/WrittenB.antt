-- An image of form B that was written: its length, its sum, its lists and causes, and that it is well formed.
use mathlib.Core.Path.{◌≡◌, refl, ap, sym, ◌∙◌}
use mathlib.Core.Bool.{true, false}
use mathlib.Core.List.{List, ◌++◌, append_assoc}
use Prim.Native.Nat.{ℕ, ◌+◌, ◌-◌, ◌*◌, ◌%◌, ◌≤◌, ◌<◌}
use native.Mathlib.Omega.{arith}
use borrow.Author.Tests.{eq-eqb, le-leb}
use lib.ListN.{length, take, drop, get_or, replicate, length-append, length-replicate}
use lib.Seq.{drop_at, drop-drop, take_at, get_or-drop}
use Rattle.buffer.specs.Runs.{same, sum}
use Rattle.buffer.proofs.Compare.{replicate_all}
use Rattle.lists.specs.Lists.{entries_ok}
use Rattle.table.specs.Tables.{causes_ok}
use Rattle.image.specs.Layouts.{triples, spare_entries, bad_entries, counts_fit, entries_fit}
use Rattle.image.specs.FormB.{two_bytes, head_b, quads, listed_part, summed_part, form_b, two_at, has_magic, run_in, layout_b, cause_entries, sum_fits, framed_b, fields_fit, formed_b}
use Rattle.image.specs.Images.{well_formed}
use Rattle.image.proofs.Layouts.{triples_length, entries_triples}
use Rattle.image.proofs.Quads.{two, four, entries_quads, causes_quads}
use Rattle.image.proofs.WritingB.{head_length, quads_length, listed_length, summed_length}

past_head : (h q t z e : List ℕ) → length h ≡ 16 → drop 16 (h ++ q ++ t ++ z ++ e) ≡ q ++ (t ++ (z ++ e))
past_head h q t z e p =
    let a : h ++ q ++ t ++ z ++ e ≡ h ++ (q ++ (t ++ (z ++ e))) = simp append_assoc in
    ap (drop 16) a ∙ drop_at h (q ++ (t ++ (z ++ e))) 16 p

module _ (run : ℕ) (sp cs bd : List ℕ) where
  abbrev image : List ℕ
  image = form_b run sp cs bd

  abbrev n : ℕ
  n = length sp

  abbrev m : ℕ
  m = length bd

  abbrev zeros : List ℕ
  zeros = replicate (530 - length (listed_part run sp cs bd)) 0

  abbrev total : List ℕ
  total = two_bytes (sum (summed_part run sp cs bd) % 65536)

  -- How long it is,
  pub form_b_length : length sp ≤ 32 → length bd ≤ 100 → length (form_b run sp cs bd) ≡ 532
  unfolding form_b two_bytes
  form_b_length p q = omega (arith, length-append (summed_part run sp cs bd) total, summed_length run sp cs bd p q)

  -- its head,
  pub form_b_magic : has_magic (form_b run sp cs bd) ≡ true
  unfolding form_b summed_part listed_part head_b same
  form_b_magic = refl

  pub form_b_run : run < 4294967296 → run_in (form_b run sp cs bd) ≡ run
  unfolding form_b summed_part listed_part head_b two_bytes two_at
  form_b_run h = four run h

  spares_counted : n ≤ 32 → two_at image 8 ≡ n
  unfolding form_b summed_part listed_part head_b two_bytes two_at
  spares_counted p = two n (omega arith)

  spares_placed : two_at image 10 ≡ 16
  unfolding form_b summed_part listed_part head_b two_bytes two_at
  spares_placed = refl

  bads_counted : m ≤ 100 → two_at image 12 ≡ m
  unfolding form_b summed_part listed_part head_b two_bytes two_at
  bads_counted q = two m (omega arith)

  bads_placed : n ≤ 32 → two_at image 14 ≡ 16 + 4 * n
  unfolding form_b summed_part listed_part head_b two_bytes two_at
  bads_placed p = two (16 + 4 * n) (omega arith)

  -- its parts from their places on,
  from_spares : drop 16 image ≡ quads sp cs ++ (triples bd ++ (zeros ++ total))
  unfolding form_b summed_part listed_part
  from_spares = past_head (head_b run n m) (quads sp cs) (triples bd) zeros total (head_length run n m)

  from_bads : drop (16 + 4 * n) image ≡ triples bd ++ (zeros ++ total)
  from_bads =
      sym (drop-drop (4 * n) 16 image)
      ∙ ap (drop (4 * n)) from_spares
      ∙ drop_at (quads sp cs) (triples bd ++ (zeros ++ total)) (4 * n) (quads_length sp cs)

  from_zeros : drop (16 + 4 * n + 3 * m) image ≡ zeros ++ total
  from_zeros =
      sym (drop-drop (3 * m) (16 + 4 * n) image)
      ∙ ap (drop (3 * m)) from_bads
      ∙ drop_at (triples bd) (zeros ++ total) (3 * m) (triples_length bd)

  the_zeros : take (514 - 4 * n - 3 * m) (drop (16 + 4 * n + 3 * m) image) ≡ zeros
  the_zeros =
      let k = 530 - length (listed_part run sp cs bd) in
      rw from_zeros (take_at zeros total (514 - 4 * n - 3 * m) (omega (arith, length-replicate {A = ℕ} k 0, listed_length run sp cs bd)))

  -- its sum,
  summed : n ≤ 32 → m ≤ 100 → take 530 image ≡ summed_part run sp cs bd
  unfolding form_b
  summed p q = take_at (summed_part run sp cs bd) total 530 (summed_length run sp cs bd p q)

  from_sum : n ≤ 32 → m ≤ 100 → drop 530 image ≡ total
  unfolding form_b
  from_sum p q = drop_at (summed_part run sp cs bd) total 530 (summed_length run sp cs bd p q)

  sum_read : n ≤ 32 → m ≤ 100 → two_at image 530 ≡ sum (summed_part run sp cs bd) % 65536
  unfolding two_at two_bytes
  sum_read p q =
      let s = sum (summed_part run sp cs bd) % 65536 in
      let e = ap (λ (l : List ℕ). get_or l 0 0) (from_sum p q) in
      let f = ap (λ (l : List ℕ). get_or l 1 0) (from_sum p q) in
      rw (← get_or-drop 530 image 0 0, ← get_or-drop 530 image 1 0, e, f) (two s (omega arith))

  pub form_b_sum : length sp ≤ 32 → length bd ≤ 100 → sum_fits (form_b run sp cs bd) ≡ true
  unfolding sum_fits
  form_b_sum p q = rw (summed p q, sum_read p q) (eq-eqb (sum (summed_part run sp cs bd) % 65536) _ refl)

  -- its lists and causes are those written,
  pub form_b_spares : length sp ≤ 32 → entries_ok true sp ≡ true → spare_entries (layout_b (form_b run sp cs bd)) (form_b run sp cs bd) ≡ sp
  form_b_spares p h = rw (spares_counted p, from_spares) (entries_quads true sp cs (triples bd ++ (zeros ++ total)) h)

  pub form_b_bads : length sp ≤ 32 → length bd ≤ 100 → entries_ok false bd ≡ true → bad_entries (layout_b (form_b run sp cs bd)) (form_b run sp cs bd) ≡ bd
  form_b_bads p q h = rw (spares_counted p, bads_counted q, from_bads) (entries_triples false bd (zeros ++ total) h)

  pub form_b_causes : length sp ≤ 32 → length cs ≡ length sp → causes_ok cs ≡ true → cause_entries (form_b run sp cs bd) ≡ cs
  form_b_causes p e h = rw (spares_counted p, from_spares) (causes_quads sp cs (triples bd ++ (zeros ++ total)) e h)

  framed_written : n ≤ 32 → framed_b image n m ≡ true
  unfolding framed_b
  framed_written p =
      rw (spares_placed, bads_placed p, eq-eqb (16 + 4 * n) (16 + 4 * n) refl, the_zeros)
      (replicate_all 0 (530 - length (listed_part run sp cs bd)))

  -- and it is well formed.
  pub form_b_formed : length sp ≤ 32 → length cs ≡ length sp → length bd ≤ 100
      → entries_ok true sp ≡ true → entries_ok false bd ≡ true → causes_ok cs ≡ true → well_formed (form_b run sp cs bd) ≡ true
  unfolding well_formed formed_b fields_fit entries_fit
  form_b_formed p e q hs hb hc =
      let c : counts_fit (layout_b image) ≡ true = rw (spares_counted p, bads_counted q, le-leb n 32 p, le-leb m 100 q) in
      let f : framed_b image (two_at image 8) (two_at image 12) ≡ true = rw (spares_counted p, bads_counted q) (framed_written p) in
      let k : causes_ok (cause_entries image) ≡ true = rw (form_b_causes p e hc) hc in
      let s : entries_ok true (spare_entries (layout_b image) image) ≡ true = rw (form_b_spares p hs) hs in
      let b : entries_ok false (bad_entries (layout_b image) image) ≡ true = rw (form_b_bads p q hb) hb in
      rw (eq-eqb (length image) 532 (form_b_length p q), form_b_magic, form_b_sum p q, c, f, k, s) b
