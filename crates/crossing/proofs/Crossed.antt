-- What C is shown of a call, put together from what its parts say.
use mathlib.Core.Path.{◌≡◌, refl, sym, ap, ◌∙◌}
use mathlib.Core.Bool.{Bool, true, false}
use mathlib.Core.List.{List, ◌++◌}
use Prim.Native.Nat.{ℕ, ◌≤◌}
use lib.Dec.{eqb}
use lib.ListN.{length, take, drop, get_or, take-append-drop}
use lib.Seq.{get_or-drop, drop-drop}
use Rattle.drive.specs.declared.State.{State}
use Rattle.drive.specs.declared.Step.{Step}
use Rattle.drive.specs.declared.Change.{Change}
use Rattle.drive.specs.declared.Answer.{Answer}
use Rattle.drive.specs.declared.Answer.TheVariants as answer
use Rattle.drive.specs.Views.{of_answer}
use Rattle.drive.specs.Results.{Out}
use Rattle.calls.specs.declared.tables.Noted.{Noted}
use Rattle.calls.specs.Gives.{record_of, notes_of, altered_of, Returns}
use Rattle.packed.specs.Packing.{pack_state, pack_of, unpack_of, causes_at, table_at}
use Rattle.packed.proofs.Round.{table_words}
use Rattle.crossing.specs.declared.Reply.{Reply}
use Rattle.crossing.specs.Crossing.{reply_of, shown, kept, crossed, note_words}

-- THE REPLY: its kind is 6 exactly for a refusal.
refused_kind : (a : Answer) → eqb (reply_of a).kind 6 ≡ (of_answer a).refused
refused_kind answer.Wait = refl
refused_kind (answer.Offer o) = refl
refused_kind (answer.Read s) = refl
refused_kind (answer.Write s) = refl
refused_kind answer.Store = refl
refused_kind answer.Finished = refl
refused_kind (answer.Refused r) = refl

module _ (a : Answer) {r : Reply} (is : r ≡ reply_of a) where
  kind_so : (t : Bool) → eqb r.kind 6 ≡ t → (of_answer a).refused ≡ t
  kind_so t e = sym (refused_kind a) ∙ ap (λ (r : Reply). eqb r.kind 6) (sym is) ∙ e

  -- Where it was 6 the words stay, whatever else would be written.
  pub left_where_refused : (w v : List ℕ) → eqb r.kind 6 ≡ true → w ≡ kept a w v
  left_where_refused w v e = rw (kind_so true e)

-- The words after an answer that is no refusal are those that were written.
pub written : (a : Answer) (w v : List ℕ) → false ≡ (of_answer a).refused → v ≡ kept a w v
written a w v e = rw (sym e)

-- Its parts make what C is shown of a result.
pub shows : (w v u : List ℕ) (x : Out) (s : Step) (r : Reply) → Returns x s u → r ≡ reply_of s.answer → v ≡ kept s.answer w (pack_of s.drive) → shown r v u ≡ crossed w x
shows w v u x s r g e k = (λ i. shown (e i) (k i) (g.1 i)) ∙ ap (λ (s : Step). shown (reply_of s.answer) (kept s.answer w (pack_of s.drive)) x.bytes) g.0

-- THE WORDS
module _ (w : List ℕ) (h : length w ≡ 189) (a : get_or w 23 0 ≤ 65535) (b : get_or w 24 0 ≤ 65535) where
  -- A state written into the words is packed beside their table and its causes,
  pub state_packed : (l : State) → pack_state l ++ drop 23 w ≡ pack_of (record_of (table_at w) (causes_at w) l)
  unfolding pack_of
  state_packed l = ap (λ (r : List ℕ). pack_state l ++ r) (sym (table_words w h a b))

  -- and a table that is packed again with its causes changes nothing.
  pub table_kept : w ≡ take 23 w ++ note_words (notes_of (unpack_of w))
  table_kept = sym (ap (λ (r : List ℕ). take 23 w ++ r) (table_words w h a b) ∙ take-append-drop 23 w)

-- A state that is written leaves the table and its causes,
pub table_stays : (w : List ℕ) (l : State) → notes_of (unpack_of (pack_state l ++ drop 23 w)) ≡ notes_of (unpack_of w)
unfolding table_at pack_state
table_stays w l =
    λ i. record {
      table = record { spares = take 32 (drop-drop 2 23 w i); bads = take 100 (drop-drop 34 23 w i); nspares = get_or-drop 23 w 0 0 i; nbads = get_or-drop 23 w 1 0 i };
      causes = take 32 (drop-drop 134 23 w i);
    }

-- and a table with its causes beside it makes the whole record.
pub both_packed : (r : List ℕ) (l : State) (k : Noted) → take 23 (pack_state l ++ r) ++ note_words k ≡ pack_of (record_of k.table k.causes l)
unfolding pack_of pack_state
both_packed r l k = refl

-- A change of the table, on words with a new state, is packed beside that state.
pub change_packed : (w : List ℕ) → length w ≡ 189 → get_or w 23 0 ≤ 65535 → get_or w 24 0 ≤ 65535 → (l : State) (c : Change) (bs v : List ℕ)
    → v ≡ pack_of (record_of (table_at w) (causes_at w) l)
    → take 23 v ++ note_words (altered_of c (notes_of (unpack_of v)) bs)
    ≡ pack_of (record_of (altered_of c (notes_of (unpack_of w)) bs).table (altered_of c (notes_of (unpack_of w)) bs).causes l)
change_packed w h a b l c bs v e =
    let s = e ∙ sym (state_packed w h a b l) in
    ap (λ (v : List ℕ). take 23 v ++ note_words (altered_of c (notes_of (unpack_of v)) bs)) s
    ∙ ap (λ (k : Noted). take 23 (pack_state l ++ drop 23 w) ++ note_words (altered_of c k bs)) (table_stays w l)
    ∙ both_packed (drop 23 w) l (altered_of c (notes_of (unpack_of w)) bs)
