-- DEMAND 3 FOR C follows from demand 3: packing loses nothing, and a reply says which answer it is.
use mathlib.Core.Path.{◌≡◌, refl, sym, ap, subst, ◌∙◌}
use mathlib.Core.Bool.{true}
use mathlib.Core.List.{List, [], ◌∷◌}
use native.Mathlib.Omega.{arith}
use Prim.Native.Nat.{ℕ}
use borrow.Author.Tests.{eq-eqb}
use lib.Dec.{eqb}
use lib.ListN.{length, replicate}
use Rattle.logic.proofs.Bools.{branch}
use Rattle.geometry.specs.Geometry.{table_sector}
use Rattle.drive.specs.declared.Drive.{Drive}
use Rattle.drive.specs.declared.Answer.{Answer}
use Rattle.drive.specs.declared.Answer.TheVariants as answer
use Rattle.drive.specs.declared.Offer.TheVariants as offer
use Rattle.drive.specs.declared.Refusal.TheVariants as refusal
use Rattle.drive.specs.Records.{record_ok}
use Rattle.drive.specs.Results.{Out}
use Rattle.drive.specs.Views.{Bytes, of_answer}
use Rattle.drive.specs.Values.{Typed, TypedCall}
use Rattle.drive.specs.Calls.{step_of, start_of}
use Rattle.drive.specs.Calls as calls
use Rattle.drive.specs.History.{Line, blank, Allows}
use Rattle.drive.specs.Run.{Event, Moment, World, after, Permits, line_of, made, Lawful, lines, begins}
use Rattle.drive.specs.Run as run
use Rattle.packed.specs.Packing.{pack_of, unpack_of}
use Rattle.packed.proofs.Round.{unpacked}
use Rattle.crossing.specs.Crossing.{Shown, shown, reply_of, kept, crossed, start_shown}
use Rattle.bumivondra.specs.Demand3.{Board, answer_of, world_of, Occasion, call, power, moment_of, shown_at, out_of, words_after, LawfulCalls, lines_of, started, TypedCalls, Demand3Calls}
use Rattle.demands.proofs.Valid.{fine_typed, step_valid, step_typed, started_fine, started_valid}
use Rattle.demands.proofs.Refusals.{refused_unchanged}
use Rattle.demands.proofs.Demand3.{demand_3}

answer_back : (a : Answer) → answer_of (reply_of a) ≡ a
answer_back answer.Wait = refl
answer_back (answer.Offer offer.Command) = refl
answer_back (answer.Offer offer.Read) = refl
answer_back (answer.Offer offer.Write) = refl
answer_back (answer.Offer offer.Verify) = refl
answer_back (answer.Offer offer.Act) = refl
answer_back (answer.Read s) = refl
answer_back (answer.Write s) = refl
answer_back answer.Store = refl
answer_back answer.Finished = refl
answer_back (answer.Refused refusal.Record) = refl
answer_back (answer.Refused refusal.Buffer) = refl
answer_back (answer.Refused refusal.Place) = refl
answer_back (answer.Refused refusal.Answer) = refl
answer_back (answer.Refused refusal.Bytes) = refl
answer_back (answer.Refused refusal.Form) = refl
answer_back (answer.Refused refusal.Sum) = refl
answer_back (answer.Refused refusal.Field) = refl

-- Says what holds of a record between two calls.
record Sound (d : Drive) : Type 0 where
  typed : Typed d
  valid : record_ok d ≡ true

-- Holds the board of a world: its record is packed.
abbrev packs : World → Board
packs w = record { words = pack_of w.drive; buffer = w.buffer; sectors = w.sectors; asked = w.asked }

-- Returns what is shown of a result whose record is packed.
abbrev shows : Out → Shown
shows x = shown (reply_of x.step.answer) (pack_of x.step.drive) x.bytes

back : (d : Drive) → Sound d → unpack_of (pack_of d) ≡ d
back d s = unpacked d s.typed s.valid

-- The record after a start is one of these.
sound_start : Sound calls.started
sound_start = record { typed = fine_typed calls.started started_fine (omega arith); valid = started_valid }

-- Says that an occasion's arguments are bytes.
abbrev Typed1 : Occasion → Type 0
Typed1 (call e) = TypedCall e.call
Typed1 (power v u f) = Unit {0}

first_typed : (m : Occasion) (ms : List Occasion) → TypedCalls (m ∷ ms) → Typed1 m
first_typed (call e) ms y = y.0
first_typed (power v u f) ms y = tt

rest_typed : (m : Occasion) (ms : List Occasion) → TypedCalls (m ∷ ms) → TypedCalls ms
rest_typed (call e) ms y = y.1
rest_typed (power v u f) ms y = y

-- Returns the list with its words unpacked.
abbrev moments_of : List Occasion → List Moment
moments_of [] = []
moments_of (m ∷ ms) = moment_of m ∷ moments_of ms

world_is : (w : World) → Sound w.drive → world_of (packs w) ≡ w
world_is w s = λ i. record { drive = back w.drive s i; buffer = w.buffer; sectors = w.sectors; asked = w.asked }

-- A CALL shows what the definition gives,
module _ (w : World) (e : Event) (s : Sound w.drive) (y : TypedCall e.call) where
  abbrev x : Out
  x = made w (run.call e)

  sound_call : Sound x.step.drive
  sound_call = record { typed = step_typed e.call w.drive w.buffer y s.typed s.valid; valid = step_valid e.call w.drive w.buffer y s.typed s.valid }

  words_are : kept x.step.answer (pack_of w.drive) (pack_of x.step.drive) ≡ pack_of x.step.drive
  words_are =
      branch (λ (v : List ℕ). v ≡ pack_of x.step.drive) (of_answer x.step.answer).refused
      (λ r. ap pack_of (sym (refused_unchanged w.drive w.buffer e.call r).0)) (λ r. refl)

  shown_call : shown_at (packs w) (call e) ≡ shows x
  shown_call =
      ap (λ (d : Drive). crossed (pack_of w.drive) (step_of e.call d w.buffer)) (back w.drive s)
      ∙ (λ i. shown (reply_of x.step.answer) (words_are i) x.bytes)

  out_call : out_of (shown_at (packs w) (call e)) ≡ x
  out_call = ap out_of shown_call ∙ (λ i. record { step = record { drive = back x.step.drive sound_call i; answer = answer_back x.step.answer i }; bytes = x.bytes })

-- and so does a start: it is refused and leaves the words, or makes the record anew.
start_shown_lem : (v : List ℕ) (u : Bytes) → out_of (start_shown v u) ≡ start_of (unpack_of v) u
unfolding start_of
start_shown_lem v u =
    branch (λ (x : Out). out_of (crossed v x) ≡ x) (eqb (length u) 536)
    (λ q. λ i. record { step = record { drive = back calls.started sound_start i; answer = answer.Read table_sector }; bytes = replicate 536 0 }) (λ q. refl)

-- So what the board has after each is the packing of the world after it.
out_is : (w : World) (m : Occasion) → Sound w.drive → Typed1 m → out_of (shown_at (packs w) m) ≡ made w (moment_of m)
out_is w (call e) s y = out_call w e s y
out_is w (power v u f) s y = start_shown_lem v u

sound : (w : World) (m : Occasion) → Sound w.drive → Typed1 m → Sound (after w (moment_of m) (made w (moment_of m))).drive
unfolding start_of
sound w (call e) s y = sound_call w e s y
sound w (power v u f) s y = branch (λ (x : Out). Sound (after w (run.power (unpack_of v) u f) x).drive) (eqb (length u) 536) (λ q. sound_start) (λ q. s)

words_is : (w : World) (m : Occasion) → Sound w.drive → Typed1 m → words_after (pack_of w.drive) m (shown_at (packs w) m) ≡ pack_of (after w (moment_of m) (made w (moment_of m))).drive
unfolding start_of
words_is w (call e) s y = ap (λ (z : Shown). z.words) (shown_call w e s y)
words_is w (power v u f) s y =
    branch (λ (x : Out). words_after (pack_of w.drive) (power v u f) (crossed v x) ≡ pack_of (after w (run.power (unpack_of v) u f) x).drive) (eqb (length u) 536) (λ q. refl) (λ q. refl)

module _ (w : World) (m : Occasion) (s : Sound w.drive) (y : Typed1 m) where
  -- Returns the board after what is read so.
  abbrev boarded : World × (List ℕ × Out) → Board
  boarded t = record { words = t.1.0; buffer = (after t.0 (moment_of m) t.1.1).buffer; sectors = (after t.0 (moment_of m) t.1.1).sectors; asked = (after t.0 (moment_of m) t.1.1).asked }

  -- Names what hangs on the world, on the words after the call and on what the history reads.
  abbrev Law : List Occasion → World × (List ℕ × Out) → Type 0
  Law ms t = Permits t.0 (moment_of m) t.1.1 × LawfulCalls (boarded t) ms

  abbrev fed : List Occasion → World × (List ℕ × Out) → List Line
  fed ms t = line_of (moment_of m) t.1.1 ∷ lines_of (boarded t) ms

  abbrev there : World × (List ℕ × Out)
  there = (world_of (packs w), (words_after (pack_of w.drive) m (shown_at (packs w) m), out_of (shown_at (packs w) m)))

  at : there ≡ (w, (pack_of (after w (moment_of m) (made w (moment_of m))).drive, made w (moment_of m)))
  at = λ i. (world_is w s i, (words_is w m s y i, out_is w m s y i))

lawful : (ms : List Occasion) (w : World) → Sound w.drive → TypedCalls ms → LawfulCalls (packs w) ms → Lawful w (moments_of ms)
lawful [] w s y l = tt
lawful (m ∷ ms) w s y l =
    let z = first_typed m ms y in
    let h = subst (Law w m s z ms) (at w m s z) l in
    (h.0, lawful ms (after w (moment_of m) (made w (moment_of m))) (sound w m s z) (rest_typed m ms y) h.1)

same : (ms : List Occasion) (w : World) → Sound w.drive → TypedCalls ms → lines_of (packs w) ms ≡ lines w (moments_of ms)
same [] w s y = refl
same (m ∷ ms) w s y =
    let z = first_typed m ms y in
    ap (fed w m s z ms) (at w m s z)
    ∙ ap (λ (l : List Line). line_of (moment_of m) (made w (moment_of m)) ∷ l) (same ms (after w (moment_of m) (made w (moment_of m))) (sound w m s z) (rest_typed m ms y))

-- DEMAND 3 FOR C.
pub demand_3_calls : Demand3Calls
unfolding start_of
demand_3_calls words lent h sectors ms y =
    let q = eq-eqb (length lent) 536 h in
    let w : World = record { drive = calls.started; buffer = replicate 536 0; sectors = sectors; asked = answer.Read table_sector } in
    let b : started words lent sectors ≡ packs w = rw q in
    let c : begins (start_of (unpack_of words) lent) sectors ≡ w = rw q in
    rw b
    (λ l. rw (same ms w sound_start y) (subst (λ (v : World). Lawful v (moments_of ms) → Allows sectors blank (lines v (moments_of ms))) c (demand_3 (unpack_of words) lent h sectors (moments_of ms)) (lawful ms w sound_start y l)))
