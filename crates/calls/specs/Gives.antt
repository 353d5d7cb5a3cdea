-- What the code of a call hands back, and what codes 1 and 2 say of it.
use Rattle.std.specs.Prelude.{◌≡◌, Bool, true, cond, not, ◌||◌, List, ℕ, Result, Ok, Err, length}
use Rattle.std.specs.Borrow.{Bor}
use Rattle.table.specs.declared.Table.{Table}
use Rattle.image.specs.Images.{well_formed}
use Rattle.drive.specs.declared.Answer.{Answer}
use Rattle.drive.specs.declared.Answer.TheVariants as answer
use Rattle.drive.specs.declared.Change.{Change}
use Rattle.drive.specs.declared.Drive.{Drive}
use Rattle.drive.specs.declared.Refusal.{Refusal}
use Rattle.drive.specs.declared.Refusal.TheVariants as refusal
use Rattle.drive.specs.declared.State.{State}
use Rattle.drive.specs.declared.Step.{Step}
use Rattle.drive.specs.declared.Turn.{Turn}
use Rattle.drive.specs.Records.{record_ok}
use Rattle.drive.specs.Results.{Out, changed, noted, leave, guarded}
use Rattle.drive.specs.Calls.{Call, surface, step_of, Conversion}
use Rattle.records.specs.Turns.{is_load}
use Rattle.calls.specs.declared.tables.Noted.{Noted}

-- Returns what codes 1 and 2 say, and the table where they pass. ok: the record is valid. fits: as many bytes are lent as the call
-- wants.
abbrev pub guard_of : Bool → Bool → Table → Result Table Refusal
guard_of ok fits t = cond ok (cond fits (Ok t) (Err refusal.Buffer)) (Err refusal.Record)

-- Says that codes 1 and 2 let a call pass: the record is valid, and 536 bytes are lent.
abbrev pub Passed : Drive → List ℕ → Type 0
Passed d u = (record_ok d ≡ true) × (length u ≡ 536)

-- Says that a rule may be asked, at the table and the buffer, where codes 1 and 2 let the call pass.
abbrev pub Asked : (Bor Table → Bor (List ℕ) → Type 0) → Drive → List ℕ → Type 0
Asked Pre d u = Passed d u → (t : Bor Table) → t.now ≡ d.table → (b : Bor (List ℕ)) → b.now ≡ u → Pre t b

-- Says that a turn and a buffer are those of codes 1 and 2, then of a rule. Rule says what the rule may decide; bs are the bytes
-- lent with the call.
pub record Turned (Rule : Bor Table → Bor (List ℕ) → Turn → Type 0) (d : Drive) (u bs : List ℕ) (y : Turn) (v : List ℕ) : Type 0 where
  pub turn : Turn
  pub ruled : Passed d u → (t : Bor Table) × (t.now ≡ d.table) × (b : Bor (List ℕ)) × (b.now ≡ u) × Rule t b turn
  pub is : y ≡ guarded (record_ok d) (length u) d.state turn
  pub left : v ≡ leave y.leaves d.table bs u

-- Says that a step and a buffer are a call's whole result.
abbrev pub Returns : Out → Step → List ℕ → Type 0
Returns o s v = (s ≡ o.step) × (v ≡ o.bytes)

-- Returns the record of a table, the causes of its spare entries and a state.
abbrev pub record_of : Table → List ℕ → State → Drive
record_of t cs l = record { table = t; causes = cs; state = l }

-- Returns a record's table and causes.
abbrev pub notes_of : Drive → Noted
notes_of d = record { table = d.table; causes = d.causes }

-- Returns the step of a turn, with the table and the causes that come after it.
abbrev pub handed : Noted → Turn → Step
handed k y = record { drive = record_of k.table k.causes y.state; answer = y.answer }

-- Says that a call gives this turn and this buffer, and keeps table and causes.
abbrev pub Gives : Call → Drive → List ℕ → Turn → List ℕ → Type 0
Gives c d u y v = Returns (step_of c d u) (handed (notes_of d) y) v

-- Returns what a change makes of a table and its causes.
abbrev pub altered_of : Change → Noted → List ℕ → Noted
altered_of c k bs = record { table = changed c k.table bs; causes = noted c k.table k.causes bs }

-- Says that the table is loaded from a well-formed image alone.
abbrev pub Formed : List ℕ → Change → Type 0
Formed bs c = (not (is_load c) || well_formed bs) ≡ true

-- Says that the surface's answer a with the bytes bs gives this turn and this buffer.
pub record Answers (a : ℕ) (bs : List ℕ) (d : Drive) (u : List ℕ) (y : Turn) (v : List ℕ) : Type 0 where
  pub gives : Returns (step_of (surface a bs) d u) (handed (altered_of y.change (notes_of d) bs) y) v
  pub formed : Formed bs y.change

-- Returns what a conversion that was tried answers.
abbrev pub answer_for : Result (Unit {0}) Refusal → Answer
answer_for (Ok x) = answer.Wait
answer_for (Err r) = answer.Refused r

-- Says that an answer and a second buffer are a conversion's whole result.
abbrev pub Converts : Conversion → Answer → List ℕ → Type 0
Converts x a v = (a ≡ x.answer) × (v ≡ x.bytes)
