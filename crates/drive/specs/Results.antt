-- What a rule decides (a turn), and what a call gives: the next record, the answer, and the buffer's bytes.
use Rattle.std.specs.Prelude.{Bool, true, false, cond, not, ◌&&◌, ◌||◌, List, [], ◌∷◌, ◌++◌, ℕ, ◌+◌, ◌-◌, eqb, take, replicate, Option, None, Some}
use Rattle.geometry.specs.declared.Block.{Block}
use Rattle.geometry.specs.declared.Sector.{Sector}
use Rattle.table.specs.declared.Table.{Table}
use Rattle.table.specs.Tables.{listed, killed_next, with_bad, without_bad, causes_listed, causes_killed}
use Rattle.image.specs.FormA.{image_a}
use Rattle.image.specs.FormB.{image_b}
use Rattle.image.specs.Images.{table_of, causes_of}
use Rattle.buffer.specs.Runs.{over}
use Rattle.drive.specs.declared.Drive.{Drive}
use Rattle.drive.specs.declared.State.{State}
use Rattle.drive.specs.declared.Marks.{Marks}
use Rattle.drive.specs.declared.Phase.{Phase}
use Rattle.drive.specs.declared.Phase.TheVariants as phase
use Rattle.drive.specs.declared.Answer.{Answer}
use Rattle.drive.specs.declared.Answer.TheVariants as answer
use Rattle.drive.specs.declared.Refusal.{Refusal}
use Rattle.drive.specs.declared.Refusal.TheVariants as refusal
use Rattle.drive.specs.declared.Ending.{Ending}
use Rattle.drive.specs.declared.Seen.{Seen}
use Rattle.drive.specs.declared.Access.TheVariants as access
use Rattle.drive.specs.declared.Trial.{Trial}
use Rattle.drive.specs.declared.Step.{Step}
use Rattle.drive.specs.declared.Cause.TheVariants as cause
use Rattle.drive.specs.declared.Change.{Change}
use Rattle.drive.specs.declared.Change.TheVariants as change
use Rattle.drive.specs.declared.Four.{Four}
use Rattle.drive.specs.declared.Part.{Part}
use Rattle.drive.specs.declared.Part.TheVariants as part
use Rattle.drive.specs.declared.Leaves.{Leaves}
use Rattle.drive.specs.declared.Turn.{Turn}
use Rattle.drive.specs.Words.{cause_number, data_of, with_data, latches, status_of}

-- Holds a call's whole result: what it hands back, and what it leaves in the buffer.
pub record Out : Type 0 where
  pub step : Step
  pub bytes : List ℕ

-- Returns what a change makes of the table, given the bytes that the surface brought.
abbrev pub changed : Change → Table → List ℕ → Table
changed change.Keep t bs = t
changed change.Load t bs = table_of bs
changed (change.Enter b) t bs = with_bad t b
changed (change.Remove b) t bs = without_bad t b
changed (change.Move b live killed) t bs = without_bad (listed t b) b
changed (change.Kill cause) t bs = killed_next t

-- Returns what it makes of the causes. Document 02, request 6: "for a live entry the last failure before its spare was tried, for
-- a dead one the last on that spare"; an entry that dies because its block moves on is dead
abbrev pub noted : Change → Table → List ℕ → List ℕ → List ℕ
noted change.Keep t causes bs = causes
noted change.Load t causes bs = causes_of bs
noted (change.Enter b) t causes bs = causes
noted (change.Remove b) t causes bs = causes
noted (change.Move b live killed) t causes bs = causes_listed t b (cause_number live) (cause_number killed) causes
noted (change.Kill cause) t causes bs = causes_killed t (cause_number cause) causes

-- Returns the image that a store writes: "every store and the image call write B".
abbrev pub stored_image : Drive → List ℕ
stored_image d = image_b d.state.run d.table d.causes

-- THE BUFFER: what a turn leaves in it, given the table and the bytes lent with the call. Of these calls nothing else writes it;
-- start zeroes all of it.

-- Returns four bytes as a list.
abbrev pub four : Four → List ℕ
four x = x.0 ∷ x.1 ∷ x.2 ∷ x.3 ∷ []

-- Returns the buffer with what becomes of its data part. Filled: "Data fills the data part from its start", "bytes after the
-- 532nd are dropped"; so does what a read brings. Zeroed, document 02, request 1: "the rest of the data part is now zeroed".
-- Image, request 6: "FFFFFF shows form A".
unfoldable pub part_left : Part → Table → List ℕ → List ℕ → List ℕ
part_left part.Kept t bs u = u
part_left (part.Filled f) t bs u = over (4 + f) (take (532 - f) bs) u
part_left (part.Zeroed f) t bs u = take (4 + f) u ++ replicate (532 - f) 0x00
part_left part.Image t bs u = with_data u (image_a t)
part_left (part.Figures x) t bs u = with_data u (four x ++ replicate 528 0x00)

-- Returns the buffer with what becomes of its status.
unfoldable pub status_left : Option Four → List ℕ → List ℕ
status_left None u = u
status_left (Some x) u = four x ++ data_of u

-- Returns the buffer that a turn leaves.
abbrev pub leave : Leaves → Table → List ℕ → List ℕ → List ℕ
leave x t bs u = status_left x.status (part_left x.part t bs u)

-- Leaves all of the buffer as it is.
abbrev pub untouched : Leaves
untouched = record { status = None; part = part.Kept }

-- Returns the whole result of a turn.
abbrev pub out_of : Table → List ℕ → List ℕ → List ℕ → Turn → Out
out_of t causes bs u x =
    record {
      step = record { drive = record { table = changed x.change t bs; causes = noted x.change t causes bs; state = x.state }; answer = x.answer };
      bytes = leave x.leaves t bs u;
    }

-- Returns the state in another phase.
abbrev pub in_phase : State → Phase → State
in_phase l p = record { phase = p; marks = l.marks; command = l.command; count = l.count; fed = l.fed; run = l.run }

-- Returns the state with other marks in another phase.
abbrev pub with_marks : State → Marks → Phase → State
with_marks l m p = record { phase = p; marks = m; command = l.command; count = l.count; fed = l.fed; run = l.run }

-- Returns the state with another run number.
abbrev pub with_run : State → ℕ → State
with_run l n = record { phase = l.phase; marks = l.marks; command = l.command; count = l.count; fed = l.fed; run = n }

-- Answers, and leaves table and buffer alone.
abbrev pub say : State → Answer → Turn
say l a = record { state = l; answer = a; change = change.Keep; leaves = untouched }

-- Refuses. It leaves "all unchanged".
abbrev pub refuse : Refusal → State → Turn
refuse r l = say l (answer.Refused r)

-- Says whether a change marks the table: "Every entry added, killed or removed marks the table changed".
abbrev pub alters : Change → Bool
alters change.Keep = false
alters change.Load = false
alters (change.Enter b) = true
alters (change.Remove b) = true
alters (change.Move b live killed) = true
alters (change.Kill cause) = true

-- Says whether a change gives some block another place: it lists it at a spare.
abbrev pub places : Change → Bool
places change.Keep = false
places change.Load = false
places (change.Enter b) = false
places (change.Remove b) = false
places (change.Move b live killed) = true
places (change.Kill cause) = false

-- Returns the marks after a change of the table.
abbrev pub altered : Marks → Change → Marks
altered m c =
    record { known = m.known; changed = alters c || m.changed; moved = places c || m.moved; latch = m.latch; fresh = m.fresh }

-- Returns the marks where a command ends.
abbrev pub ended : Marks → Change → Ending → Marks
ended m c e =
    record { known = m.known; changed = alters c || m.changed; moved = places c || m.moved; latch = latches e || m.latch; fresh = m.fresh }

-- Returns the marks after a finish: the next one is not the first.
abbrev pub reported : Marks → Marks
reported m = record { known = m.known; changed = m.changed; moved = m.moved; latch = m.latch; fresh = false }

-- THE END OF A COMMAND

-- Holds nothing met yet.
abbrev pub clean : Seen
clean = record { errors = 0; crc = false; timeout = false }

-- Finishes the command, with the marks where it ended. "The four status bytes are written at the finish and not before."
abbrev pub report : State → Marks → Change → Ending → Seen → Bool → Bool → Part → Turn
report l m c e s unstored unsettled p =
    record {
      state = with_marks l (reported m) phase.Idle;
      answer = answer.Finished;
      change = c;
      leaves = record { status = Some (status_of e s unstored unsettled m.fresh); part = p };
    }

-- Finishes a command with no access and no store: it is for no block, or no table is known. Nothing was met, and the table stays.
abbrev pub ends : State → Ending → Part → Turn
ends l e p = report l (ended l.marks change.Keep e) change.Keep e clean false false p

-- Returns the state with its run number one up. Document 02, request 6: "one more per store asked for, staying at its top"
abbrev pub numbered : State → State
numbered l = with_run l (cond (eqb l.run 0xFFFFFFFF) l.run (l.run + 1))

-- Asks for the store: "one write of the image to 4960". How the command ended stands in the record until the store's answer.
abbrev pub asks_store : State → Marks → Change → Ending → Seen → Part → Turn
asks_store l m c e s p =
    record {
      state = with_marks (numbered l) m (phase.Awaiting (access.Store (record { ending = e; seen = s })));
      answer = answer.Store;
      change = c;
      leaves = record { status = None; part = p };
    }

-- Says whether a command that ends with these marks stores the table: "ends with unstored changes"; "Under the latch none is made"
abbrev pub stores : Marks → Bool
stores m = m.known && m.changed && not m.latch

-- Says whether it fails for want of a store: under the latch, "only while some block's place is unstored".
abbrev pub wants_store : Marks → Bool
wants_store m = m.latch && m.moved

-- Ends a command for a block. Document 02, request 7: "Any command acted on with a block's number that ends with unstored changes
-- now stores the table before it finishes, one access more"; "Under the latch none is made, and the command fails for that
-- reason only while some block's place is unstored."
unfoldable pub finish : State → Change → Ending → Seen → Part → Turn
finish l c e s p =
    let m = ended l.marks c e in
    cond (stores m) (asks_store l m c e s p) (report l m c e s (wants_store m) false p)

-- Returns the trial of a block's present sector, before its first reread.
abbrev pub on_present : Block → Sector → Seen → Trial
on_present b s seen =
    record { block = b; sector = s; spare = false; rereads = 0; failures = 0; seen = seen; last = cause.Unknown; before = cause.Unknown; present = cause.Unknown }

-- Refuses with code 1 or 2, in this order, or turns as the rule says. The buffer has n bytes.
abbrev pub guarded : Bool → ℕ → State → Turn → Turn
guarded ok n l x = cond ok (cond (eqb n 536) x (refuse refusal.Buffer l)) (refuse refusal.Record l)
