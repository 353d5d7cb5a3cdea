-- THE CALLS: seven, each a function of the record, the lent buffer and the arguments, giving record, answer and buffer; and
-- convert, which has no record.
use Rattle.std.specs.Prelude.{true, false, cond, ◌&&◌, List, [], ℕ, eqb, length, replicate}
use Rattle.geometry.specs.Geometry.{table_sector}
use Rattle.table.specs.Tables.{empty_table}
use Rattle.buffer.specs.Runs.{same}
use Rattle.image.specs.declared.Fault.{Fault}
use Rattle.image.specs.declared.Fault.TheVariants as fault
use Rattle.image.specs.Images.{well_formed, fault_of, converted}
use Rattle.drive.specs.declared.Drive.{Drive}
use Rattle.drive.specs.declared.Answer.{Answer}
use Rattle.drive.specs.declared.Answer.TheVariants as answer
use Rattle.drive.specs.declared.Refusal.{Refusal}
use Rattle.drive.specs.declared.Refusal.TheVariants as refusal
use Rattle.drive.specs.declared.Phase.TheVariants as phase
use Rattle.drive.specs.Records.{record_ok}
use Rattle.drive.specs.declared.Access.TheVariants as access
use Rattle.drive.specs.declared.Turn.{Turn}
use Rattle.drive.specs.Words.{data_of}
use Rattle.drive.specs.Results.{Out, out_of, stored_image, guarded}
use Rattle.drive.specs.Handshake.{raised, lowered, fed_to, rested}
use Rattle.drive.specs.Access.{answered, verifies}

-- Returns what a call gives: codes 1 and 2 first, then what its own rule says. bs are the bytes lent with the call.
abbrev pub called : Drive → List ℕ → List ℕ → Turn → Out
called d u bs x = out_of d.table d.causes bs u (guarded (record_ok d) (length u) d.state x)

-- Returns what each call gives.
unfoldable pub raise_of : Drive → List ℕ → Out
raise_of d u = called d u [] (raised d.state.phase d.state)

unfoldable pub lower_of : Drive → List ℕ → ℕ → Out
lower_of d u b = called d u [] (lowered d.state.phase d.state d.table b)

unfoldable pub feed_of : Drive → List ℕ → List ℕ → Out
feed_of d u bs = called d u bs (fed_to d.state.phase d.state bs)

unfoldable pub surface_of : Drive → List ℕ → ℕ → List ℕ → Out
surface_of d u a bs = called d u bs (answered d.state.phase d.state d.table a bs (verifies d.state.phase a && same bs (data_of u)))

unfoldable pub reset_of : Drive → List ℕ → Out
reset_of d u = called d u [] (rested d.state.phase d.state)

-- Holds the record after a start.
abbrev pub started : Drive
started =
    record {
      table = empty_table;
      causes = replicate 32 0;
      state = record { phase = phase.Awaiting (access.Start 1); marks = record { known = false; changed = false; moved = false; latch = false; fresh = true }; command = replicate 6 0; count = 0; fed = 0; run = 0 };
    }

-- Returns what start gives. "Start makes the record anew from any record (of the codes only 2 applies), zeroes the buffer and
-- asks for sector 4960"
unfoldable pub start_of : Drive → List ℕ → Out
start_of d u =
    cond (eqb (length u) 536)
    (record { step = record { drive = started; answer = answer.Read table_sector }; bytes = replicate 536 0 })
    (record { step = record { drive = d; answer = answer.Refused refusal.Buffer }; bytes = u })

-- Gives an answer, and the record as it is.
abbrev pub image_says : Drive → Answer → List ℕ → Out
image_says d a u = record { step = record { drive = d; answer = a }; bytes = u }

-- Returns what image gives. "Image writes the table into 532 lent bytes in any phase, a busy one included"; "it changes no
-- record"; with no table it is out of place.
unfoldable pub image_out_of : Drive → List ℕ → Out
image_out_of d u =
    cond (record_ok d)
    (cond (eqb (length u) 532)
    (cond d.state.marks.known (image_says d answer.Wait (stored_image d)) (image_says d (answer.Refused refusal.Place) u))
    (image_says d (answer.Refused refusal.Buffer) u))
    (image_says d (answer.Refused refusal.Record) u)

-- CONVERT, document 02, request 6: "One call, with no record, answering wait, turns either form into the other in a second lent
-- buffer, both of 532 bytes, else 2."

-- Holds its result: the answer, and what it leaves in the second buffer. The first is only read.
pub record Conversion : Type 0 where
  pub answer : Answer
  pub bytes : List ℕ

-- Returns the refusal of bytes that are no image: "6 neither a well-formed A nor the four first bytes of B, 7 sum wrong, 8 an
-- offset, count, entry, cause or zero of B wrong"
abbrev pub refusal_for : Fault → Refusal
refusal_for fault.Form = refusal.Form
refusal_for fault.Sum = refusal.Sum
refusal_for fault.Field = refusal.Field

-- Refuses a conversion. It leaves the second buffer too.
abbrev pub unconverted : Refusal → List ℕ → Conversion
unconverted r to = record { answer = answer.Refused r; bytes = to }

-- Returns what convert gives.
unfoldable pub convert_of : List ℕ → List ℕ → Conversion
convert_of from to =
    cond (eqb (length from) 532 && eqb (length to) 532)
    (cond (well_formed from) (record { answer = answer.Wait; bytes = converted from }) (unconverted (refusal_for (fault_of from)) to))
    (unconverted refusal.Buffer to)

-- Names the calls of demand 3's list but start, which `Moment` in Run adds.
pub data Call : Type 0 where
  raise : Call
  lower : ℕ → Call
  feed : List ℕ → Call
  surface : ℕ → List ℕ → Call
  reset : Call

-- Returns what a call of the list gives: what the code of each call is proved equal to, and what the history of calls is run on.
unfoldable pub step_of : Call → Drive → List ℕ → Out
step_of raise d u = raise_of d u
step_of (lower b) d u = lower_of d u b
step_of (feed bs) d u = feed_of d u bs
step_of (surface a bs) d u = surface_of d u a bs
step_of reset d u = reset_of d u
