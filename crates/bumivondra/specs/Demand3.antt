-- DEMAND 3 FOR C: every list of the library's own calls from bv_start on, further bv_start among them. Each call gets the words and
-- the buffer that the last one left, each bv_start any words and buffer, and the surface does what its rules permit.
use Rattle.std.specs.Prelude.{◌≡◌, cond, List, [], ◌∷◌, ℕ, eqb, length}
use Rattle.drive.specs.declared.Answer.{Answer}
use Rattle.drive.specs.declared.Answer.TheVariants as answer
use Rattle.drive.specs.declared.Offer.{Offer}
use Rattle.drive.specs.declared.Offer.TheVariants as offer
use Rattle.drive.specs.declared.Refusal.{Refusal}
use Rattle.drive.specs.declared.Refusal.TheVariants as refusal
use Rattle.drive.specs.Results.{Out}
use Rattle.drive.specs.Views.{Bytes, of_answer}
use Rattle.drive.specs.Values.{TypedCall}
use Rattle.drive.specs.History.{Sectors, Line, blank, Allows}
use Rattle.drive.specs.Surface.{Fate}
use Rattle.drive.specs.Run.{Event, Moment, World, after, Permits, line_of}
use Rattle.drive.specs.Run as run
use Rattle.packed.specs.Packing.{unpack_of}
use Rattle.crossing.specs.declared.Reply.{Reply}
use Rattle.crossing.specs.Crossing.{Shown, call_shown, start_shown}

-- A REPLY READ AS AN ANSWER

abbrev pub offer_of : ℕ → Offer
offer_of n = cond (eqb n 0x01) offer.Command (cond (eqb n 0x02) offer.Read (cond (eqb n 0x03) offer.Write (cond (eqb n 0x04) offer.Verify offer.Act)))

abbrev pub refusal_of : ℕ → Refusal
refusal_of n =
    cond (eqb n 1) refusal.Record
    (cond (eqb n 2) refusal.Buffer
    (cond (eqb n 3) refusal.Place
    (cond (eqb n 4) refusal.Answer
    (cond (eqb n 5) refusal.Bytes (cond (eqb n 6) refusal.Form (cond (eqb n 7) refusal.Sum refusal.Field))))))

abbrev pub answer_of : Reply → Answer
answer_of r =
    cond (eqb r.kind 0) answer.Wait
    (cond (eqb r.kind 1) (answer.Offer (offer_of r.value))
    (cond (eqb r.kind 2) (answer.Read (record { 0 = r.value }))
    (cond (eqb r.kind 3) (answer.Write (record { 0 = r.value }))
    (cond (eqb r.kind 4) answer.Store (cond (eqb r.kind 5) answer.Finished (answer.Refused (refusal_of r.value)))))))

-- THE LIST

-- Holds what the board has between two calls, the sectors, and what the surface was asked for.
pub record Board : Type 0 where
  pub words : List ℕ
  pub buffer : Bytes
  pub sectors : Sectors
  pub asked : Answer

-- Returns the same with the words unpacked, for the surface's rules.
abbrev pub world_of : Board → World
world_of b = record { drive = unpack_of b.words; buffer = b.buffer; sectors = b.sectors; asked = b.asked }

-- Names what the list may hold: a call, or bv_start given any words as the record and any buffer, with what a pending write leaves if
-- it is a cut.
pub data Occasion : Type 0 where
  call : Event → Occasion
  power : List ℕ → Bytes → Fate → Occasion

-- Returns the same with the words unpacked.
abbrev pub moment_of : Occasion → Moment
moment_of (call e) = run.call e
moment_of (power w u f) = run.power (unpack_of w) u f

-- Returns what the library shows of it.
abbrev pub shown_at : Board → Occasion → Shown
shown_at b (call e) = call_shown e.call b.words b.buffer
shown_at b (power w u f) = start_shown w u

-- Returns the same with the words unpacked and the reply read, for the history.
abbrev pub out_of : Shown → Out
out_of x = record { step = record { drive = unpack_of x.words; answer = answer_of x.reply }; bytes = x.bytes }

-- Returns the words that the board has then: "The caller hands buffer and record on unaltered." A bv_start that is refused leaves the
-- board what it had.
abbrev pub words_after : List ℕ → Occasion → Shown → List ℕ
words_after v (call e) x = x.words
words_after v (power w u f) x = cond (of_answer (answer_of x.reply)).refused v x.words

-- Returns what the board has after what is shown so; v are its words before.
abbrev pub board_after : List ℕ → World → Occasion → Shown → Out → Board
board_after v w m x o =
    record { words = words_after v m x; buffer = (after w (moment_of m) o).buffer; sectors = (after w (moment_of m) o).sectors; asked = (after w (moment_of m) o).asked }

abbrev pub next : Board → Occasion → Board
next b m = board_after b.words (world_of b) m (shown_at b m) (out_of (shown_at b m))

-- Says that the surface's rules hold throughout the list.
abbrev pub LawfulCalls : Board → List Occasion → Type 0
LawfulCalls b [] = Unit {0}
LawfulCalls b (m ∷ ms) = Permits (world_of b) (moment_of m) (out_of (shown_at b m)) × LawfulCalls (next b m) ms

-- Returns what the history is fed.
abbrev pub lines_of : Board → List Occasion → List Line
lines_of b [] = []
lines_of b (m ∷ ms) = line_of (moment_of m) (out_of (shown_at b m)) ∷ lines_of (next b m) ms

-- Returns what the board has where bv_start returned.
abbrev pub started : List ℕ → Bytes → Sectors → Board
started words lent sectors = let x = start_shown words lent in record { words = x.words; buffer = x.bytes; sectors = sectors; asked = answer_of x.reply }

-- Says that the calls' arguments are bytes, as C passes them.
abbrev pub TypedCalls : List Occasion → Type 0
TypedCalls [] = Unit {0}
TypedCalls (call e ∷ ms) = TypedCall e.call × TypedCalls ms
TypedCalls (power w u f ∷ ms) = TypedCalls ms

-- For any words as the record and any buffer of 536 bytes given to bv_start, any sectors, any list of calls with any arguments and of
-- further bv_start given any words and buffer, whatever they cut off, and any outcome that the surface's rules permit: the history
-- allows the whole list.
abbrev pub Demand3Calls : Type 0
Demand3Calls =
    (words : List ℕ) (lent : Bytes) → length lent ≡ 536
    → (sectors : Sectors) (ms : List Occasion) → TypedCalls ms → LawfulCalls (started words lent sectors) ms
    → Allows sectors blank (lines_of (started words lent sectors) ms)
