-- What the history allows is what the customer asked for.
use mathlib.Core.Path.{◌≡◌, refl, sym, subst, ap, ◌∙◌}
use mathlib.Core.Bool.{Bool, true, false, cond, not, ◌&&◌, ◌||◌}
use mathlib.Core.Logic.{inl, inr}
use mathlib.Core.List.{List, [], ◌∷◌}
use Prim.Native.Nat.{ℕ}
use native.Mathlib.Omega.{arith}
use lib.Dec.{eqb}
use borrow.Author.Tests.{eqb-true}
use Rattle.geometry.specs.declared.Block.{Block}
use Rattle.logic.proofs.Bools.{and_true}
use Rattle.table.specs.Tables.{spare_list, sector_of}
use Rattle.image.specs.Images.{table_of}
use Rattle.drive.specs.declared.Answer.{Answer}
use Rattle.drive.specs.Words.{data_of, block_of, is_read}
use Rattle.drive.specs.History.{Sectors, Entry, Line, entry, restart, History, blank, In, put, contents, learns, reports, good, has_written, bytes_of, padded, candidates_next, heard, next, interrupted, candidates_then, begun, past, Fits, Allows, order}
use Rattle.drive.specs.Calls.{start_of}
use Rattle.drive.specs.Run.{lines, begins}
use Rattle.drive.specs.Told.{Report, began, cut, found, placed, written, attempted, given, nothing, report_of, report_at, reports_of, Before, none, gave, Again, Right, Demand3Told}
use Rattle.drive.specs.Cuts.{good_report, Tabled}
use Rattle.drive.specs.Views.{Bytes, of_call, of_answer}
use Rattle.demands.proofs.Demand3.{demand_3, good_is_tabled}

-- Says that a block's candidates are all allowed by what was reported of it, and that one that was given is the only one.
pub record Agrees (cands latest : List Bytes) (before : Before) : Type 0 where
  within : (y : Bytes) → In y cands → In y latest
  sole : (x : Bytes) → before ≡ gave x → cands ≡ x ∷ []

not_gave : {x : Bytes} → none ≡ gave x → ⊥
not_gave e = let z : ◌≡◌ {A = ℕ} 0 1 = cc in omega arith

gave_inj : {x y : Bytes} → gave x ≡ gave y → x ≡ y
gave_inj e = cc

pub fresh : (xs : List Bytes) → Agrees xs xs none
fresh xs = record { within = λ y m. m; sole = λ x e. absurd (not_gave e) }

only : (x : Bytes) (latest : List Bytes) → In x latest → Agrees (x ∷ []) latest (gave x)
only x latest m = record { within = λ y k. one y k; sole = λ z e. ap (λ (w : Bytes). w ∷ []) (gave_inj e) }
  where
    one : (y : Bytes) → In y (x ∷ []) → In y latest
    one y (inl e) = subst (λ (w : Bytes). In w latest) (sym e) m
    one y (inr e) = absurd e

added : (x : Bytes) {cands latest : List Bytes} {before : Before} → Agrees cands latest before → Agrees (x ∷ cands) (x ∷ latest) none
added x {cands} {latest} a = record { within = λ y k. one y k; sole = λ z e. absurd (not_gave e) }
  where
    one : (y : Bytes) → In y (x ∷ cands) → In y (x ∷ latest)
    one y (inl e) = inl e
    one y (inr e) = inr (a.within y e)

again : (y : Bytes) (before : Before) {cands latest : List Bytes} → Agrees cands latest before → In y cands → Again before y
again y none a m = tt
again y (gave x) a m = one (subst (λ (c : List Bytes). In y c) (a.sole x refl) m)
  where
    one : In y (x ∷ []) → y ≡ x
    one (inl e) = e
    one (inr e) = absurd e

-- The candidates after an entry, as maps.
module _ (start : Sectors) (H : History) (o : Entry) where
  nothing_heard : (of_answer o.answer).refused ≡ true → next start H o ≡ H
  unfolding next
  nothing_heard e = rw e

  something_heard : (of_answer o.answer).refused ≡ false → next start H o ≡ heard start H o
  unfolding next
  something_heard e = rw e

  learned : learns H o ≡ true → H.learned ≡ false → candidates_next start H o ≡ (λ b. contents (start (sector_of (spare_list (table_of (of_call o.call).brought)) b)))
  unfolding candidates_next
  learned e f = rw (e, f)

  relearned : learns H o ≡ true → H.learned ≡ true → candidates_next start H o ≡ H.candidates
  unfolding candidates_next
  relearned e f = rw (e, f)

  found_next : (of_answer o.answer).refused ≡ false → (next start H o).found ≡ (learns H o || H.found)
  unfolding heard
  found_next e = ap (λ (X : History). X.found) (something_heard e)

  silent : learns H o ≡ false → reports H o ≡ false → candidates_next start H o ≡ H.candidates
  unfolding candidates_next
  silent e f = rw (e, f)

  replaced : learns H o ≡ false → reports H o ≡ true → good o ≡ true → candidates_next start H o ≡ put H.candidates (block_of (order H)) (bytes_of H o ∷ [])
  unfolding candidates_next
  replaced e f g = rw (e, f, g)

  unmoved : learns H o ≡ false → reports H o ≡ true → good o ≡ false → (not (is_read (order H).kind) && has_written H o) ≡ false → candidates_next start H o ≡ H.candidates
  unfolding candidates_next
  unmoved e f g h = rw (e, f, g, h)

  extended : learns H o ≡ false → reports H o ≡ true → good o ≡ false → (not (is_read (order H).kind) && has_written H o) ≡ true
      → candidates_next start H o ≡ put H.candidates (block_of (order H)) (bytes_of H o ∷ H.candidates (block_of (order H)))
  unfolding candidates_next
  extended e f g h = rw (e, f, g, h)

read_bytes : (H : History) (o : Entry) → is_read (order H).kind ≡ true → bytes_of H o ≡ data_of o.buffer
unfolding bytes_of
read_bytes H o e = rw e

module _ (b : Block) (start : Sectors) (H : History) (o : Entry) where
  abbrev now : List Bytes
  now = H.candidates b

  abbrev later : List Bytes
  later = (next start H o).candidates b

  abbrev mine : Bool
  mine = eqb b.0 (order H).number

  -- Says that a report leaves right what follows, if the candidates after the entry do.
  abbrev Goes : Report → Type 0
  Goes r = (latest : List Bytes) (before : Before) (tabled : Bool) (rs : List Report) → Agrees now latest before → H.found ≡ tabled
      → ((latest' : List Bytes) (before' : Before) (tabled' : Bool) → Agrees later latest' before' → (next start H o).found ≡ tabled' → Right latest' before' tabled' rs) → Right latest before tabled (r ∷ rs)

  same_block : mine ≡ true → block_of (order H) ≡ b
  same_block e = ap (λ (n : ℕ). let x : Block = record { 0 = n } in x) (sym (eqb-true b.0 (order H).number e))

  -- The block's candidates after the entry, case by case.
  if_refused : (of_answer o.answer).refused ≡ true → later ≡ now
  if_refused e = ap (λ (X : History). X.candidates b) (nothing_heard start H o e)

  module _ (acc : (of_answer o.answer).refused ≡ false) where
    via : {f : Block → List Bytes} → candidates_next start H o ≡ f → later ≡ f b
    unfolding heard
    via e = ap (λ (X : History). X.candidates b) (something_heard start H o acc) ∙ ap (λ (g : Block → List Bytes). g b) e

    if_learned : learns H o ≡ true → H.learned ≡ false → later ≡ contents (start (sector_of (spare_list (table_of (of_call o.call).brought)) b))
    if_learned e f = via (learned start H o e f)

    if_relearned : learns H o ≡ true → H.learned ≡ true → later ≡ now
    if_relearned e f = via (relearned start H o e f)

    found_now : learns H o ≡ true → (next start H o).found ≡ true
    found_now e = found_next start H o acc ∙ rw e

    found_then : learns H o ≡ false → (next start H o).found ≡ H.found
    found_then e = found_next start H o acc ∙ rw e

    if_silent : learns H o ≡ false → reports H o ≡ false → later ≡ now
    if_silent e f = via (silent start H o e f)

    if_good : learns H o ≡ false → reports H o ≡ true → good o ≡ true → later ≡ cond mine (bytes_of H o ∷ []) now
    if_good e f g = via (replaced start H o e f g)

    if_failed : learns H o ≡ false → reports H o ≡ true → good o ≡ false → (not (is_read (order H).kind) && has_written H o) ≡ false → later ≡ now
    if_failed e f g h = via (unmoved start H o e f g h)

    if_attempted : learns H o ≡ false → reports H o ≡ true → good o ≡ false → (not (is_read (order H).kind) && has_written H o) ≡ true → later ≡ cond mine (bytes_of H o ∷ H.candidates (block_of (order H))) now
    if_attempted e f g h = via (extended start H o e f g h)

  agreed : {c : List Bytes} {latest : List Bytes} {before : Before} → later ≡ c → Agrees c latest before → Agrees later latest before
  agreed {latest = latest} {before = before} e a = subst (λ (x : List Bytes). Agrees x latest before) (sym e) a

  given_right : Fits H o → (of_answer o.answer).refused ≡ false → reports H o ≡ true → good o ≡ true → is_read (order H).kind ≡ true → mine ≡ true → In (data_of o.buffer) now
  given_right fit e1 e3 e5 e6 e4 =
      subst (λ (x : Block). In (data_of o.buffer) (H.candidates x)) (same_block e4)
      (fit.read_rule (and_true (not (of_answer o.answer).refused && reports H o && good o) (is_read (order H).kind) (and_true (not (of_answer o.answer).refused && reports H o) (good o) (and_true (not (of_answer o.answer).refused) (reports H o) (ap not e1) e3) e5) e6))

  given_tabled : (good_report H o ≡ true → H.found ≡ true) → (of_answer o.answer).refused ≡ false → reports H o ≡ true → good o ≡ true → H.found ≡ true
  given_tabled tab e1 e3 e5 = tab (and_true (not (of_answer o.answer).refused && reports H o) (good o) (and_true (not (of_answer o.answer).refused) (reports H o) (ap not e1) e3) e5)

  found_refused : (of_answer o.answer).refused ≡ true → (next start H o).found ≡ H.found
  found_refused e = ap (λ (X : History). X.found) (nothing_heard start H o e)

  -- A report about another block says nothing of this one.
  other : (x : List Bytes) → mine ≡ false → cond mine x now ≡ now
  other x e = rw e

  this : (x : List Bytes) → mine ≡ true → cond mine x now ≡ x
  this x e = rw e

  tells : Fits H o → (good_report H o ≡ true → H.found ≡ true) → Goes (report_of b start H o)
  unfolding report_of
  tells fit tab = go (of_answer o.answer).refused refl (learns H o) refl H.learned refl (reports H o) refl mine refl (good o) refl (is_read (order H).kind) refl (not (is_read (order H).kind) && has_written H o) refl
    where
      go : (q1 : Bool) → (of_answer o.answer).refused ≡ q1 → (q2 : Bool) → learns H o ≡ q2 → (q8 : Bool) → H.learned ≡ q8 → (q3 : Bool) → reports H o ≡ q3 → (q4 : Bool) → mine ≡ q4
          → (q5 : Bool) → good o ≡ q5 → (q6 : Bool) → is_read (order H).kind ≡ q6 → (q7 : Bool) → (not (is_read (order H).kind) && has_written H o) ≡ q7
          → Goes (cond q1 nothing (cond q2 (cond q8 placed (found (contents (start (sector_of (spare_list (table_of (of_call o.call).brought)) b))))) (cond (q3 && q4) (cond q5 (cond q6 (given (data_of o.buffer)) (written (bytes_of H o))) (cond q7 (attempted (bytes_of H o)) nothing)) nothing)))
      go true e1 q2 e2 q8 e8 q3 e3 q4 e4 q5 e5 q6 e6 q7 e7 latest before tabled rs a f k = k latest before tabled (agreed (if_refused e1) a) (found_refused e1 ∙ f)
      go false e1 true e2 true e8 q3 e3 q4 e4 q5 e5 q6 e6 q7 e7 latest before tabled rs a f k = k latest before true (agreed (if_relearned e1 e2 e8) a) (found_now e1 e2)
      go false e1 true e2 false e8 q3 e3 q4 e4 q5 e5 q6 e6 q7 e7 latest before tabled rs a f k = k _ none true (agreed (if_learned e1 e2 e8) (fresh _)) (found_now e1 e2)
      go false e1 false e2 q8 e8 false e3 q4 e4 q5 e5 q6 e6 q7 e7 latest before tabled rs a f k = k latest before tabled (agreed (if_silent e1 e2 e3) a) (found_then e1 e2 ∙ f)
      go false e1 false e2 q8 e8 true e3 false e4 true e5 q6 e6 q7 e7 latest before tabled rs a f k = k latest before tabled (agreed (if_good e1 e2 e3 e5 ∙ other _ e4) a) (found_then e1 e2 ∙ f)
      go false e1 false e2 q8 e8 true e3 false e4 false e5 q6 e6 true e7 latest before tabled rs a f k = k latest before tabled (agreed (if_attempted e1 e2 e3 e5 e7 ∙ other _ e4) a) (found_then e1 e2 ∙ f)
      go false e1 false e2 q8 e8 true e3 false e4 false e5 q6 e6 false e7 latest before tabled rs a f k = k latest before tabled (agreed (if_failed e1 e2 e3 e5 e7) a) (found_then e1 e2 ∙ f)
      go false e1 false e2 q8 e8 true e3 true e4 true e5 true e6 q7 e7 latest before tabled rs a f k =
          let m = given_right fit e1 e3 e5 e6 e4 in
          let e = if_good e1 e2 e3 e5 ∙ this _ e4 ∙ ap (λ (x : Bytes). x ∷ []) (read_bytes H o e6) in (
            sym f ∙ given_tabled tab e1 e3 e5,
            a.within (data_of o.buffer) m,
            again (data_of o.buffer) before a m,
            k latest (gave (data_of o.buffer)) tabled (agreed e (only (data_of o.buffer) latest (a.within (data_of o.buffer) m))) (found_then e1 e2 ∙ f),
          )
      go false e1 false e2 q8 e8 true e3 true e4 true e5 false e6 q7 e7 latest before tabled rs a f k =
          (sym f ∙ given_tabled tab e1 e3 e5, k _ none tabled (agreed (if_good e1 e2 e3 e5 ∙ this _ e4) (fresh _)) (found_then e1 e2 ∙ f))
      go false e1 false e2 q8 e8 true e3 true e4 false e5 q6 e6 true e7 latest before tabled rs a f k =
          k _ none tabled (agreed (if_attempted e1 e2 e3 e5 e7 ∙ this _ e4 ∙ ap (λ (x : Block). bytes_of H o ∷ H.candidates x) (same_block e4)) (added (bytes_of H o) a)) (found_then e1 e2 ∙ f)
      go false e1 false e2 q8 e8 true e3 true e4 false e5 q6 e6 false e7 latest before tabled rs a f k = k latest before tabled (agreed (if_failed e1 e2 e3 e5 e7) a) (found_then e1 e2 ∙ f)

-- A START: what it cut off is allowed too, and no table is read yet.
module _ (b : Block) (H : History) (x : Answer) where
  abbrev ours : Bool
  ours = eqb b.0 (order H).number

  breaks : (latest : List Bytes) (before : Before) (tabled : Bool) (rs : List Report) → Agrees (H.candidates b) latest before → H.found ≡ tabled
      → ((latest' : List Bytes) (before' : Before) (tabled' : Bool) → Agrees ((begun H x).candidates b) latest' before' → (begun H x).found ≡ tabled' → Right latest' before' tabled' rs) → Right latest before tabled (report_at b H x ∷ rs)
  unfolding report_at begun candidates_then
  breaks latest before tabled rs a f k = go (of_answer x).refused refl (interrupted H) refl ours refl
    where
      go : (q1 : Bool) → (of_answer x).refused ≡ q1 → (q2 : Bool) → interrupted H ≡ q2 → (q3 : Bool) → ours ≡ q3
          → Right latest before tabled (cond q1 nothing (cond (q2 && q3) (cut (padded H.fed)) began) ∷ rs)
      go true e1 q2 e2 q3 e3 = k latest before tabled (rw e1 a) (rw e1 f)
      go false e1 true e2 true e3 =
          k _ none false
          (rw (e1, e2, e3) (subst (λ (j : Block). Agrees (padded H.fed ∷ H.candidates j) (padded H.fed ∷ latest) none) (ap (λ (n : ℕ). let z : Block = record { 0 = n } in z) (eqb-true b.0 (order H).number e3)) (added (padded H.fed) a)))
          (rw e1)
      go false e1 true e2 false e3 = k latest before false (rw (e1, e2, e3) a) (rw e1)
      go false e1 false e2 q3 e3 = k latest before false (rw (e1, e2) a) (rw e1)

pub all_right : (b : Block) (start : Sectors) (H : History) (xs : List Line) (latest : List Bytes) (before : Before) (tabled : Bool) → Allows start H xs → Tabled start H xs → Agrees (H.candidates b) latest before → H.found ≡ tabled
    → Right latest before tabled (reports_of b start H xs)
all_right b start H [] latest before tabled ok tab a f = tt
all_right b start H (entry o ∷ xs) latest before tabled ok tab a f =
    tells b start H o ok.0 tab.0 latest before tabled (reports_of b start (past start H (entry o)) xs) a f (λ latest' before' tabled' a' f'. all_right b start (past start H (entry o)) xs latest' before' tabled' ok.2 tab.1 a' f')
all_right b start H (restart x ∷ xs) latest before tabled ok tab a f =
    breaks b H x latest before tabled (reports_of b start (begun H x) xs) a f (λ latest' before' tabled' a' f'. all_right b start (begun H x) xs latest' before' tabled' ok.2 tab a' f')

-- DEMAND 3, in the customer's words.
pub demand_3_told : Demand3Told
demand_3_told d lent h sectors ms ok b =
    all_right b sectors blank (lines (begins (start_of d lent) sectors) ms) [] none false (demand_3 d lent h sectors ms ok) (good_is_tabled d lent h sectors ms ok) (fresh []) refl
