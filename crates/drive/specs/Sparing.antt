-- Document 02, request 4: sparing. A sector trial is one write, then a hundred rereads; more than 30 failures fail it. A read at
-- the threshold, a write/verify whose first verify failed and a write to a listed bad block begin with the trial of the
-- present sector; each next unused spare gets one.
use Rattle.std.specs.Prelude.{Bool, true, cond, ℕ, ◌+◌, ltb, leb, eqb, None}
use Rattle.geometry.specs.Geometry.{spare_of}
use Rattle.geometry.specs.declared.Block.{Block}
use Rattle.geometry.specs.declared.Sector.{Sector}
use Rattle.lists.specs.Lists.{member_of}
use Rattle.table.specs.declared.Table.{Table}
use Rattle.table.specs.Tables.{bad_list}
use Rattle.drive.specs.declared.State.{State}
use Rattle.drive.specs.declared.Seen.{Seen}
use Rattle.drive.specs.declared.Trial.{Trial}
use Rattle.drive.specs.declared.Access.TheVariants as access
use Rattle.drive.specs.declared.Phase.TheVariants as phase
use Rattle.drive.specs.declared.Answer.TheVariants as answer
use Rattle.drive.specs.declared.Ending.TheVariants as ending
use Rattle.drive.specs.declared.Cause.{Cause}
use Rattle.drive.specs.declared.Cause.TheVariants as cause
use Rattle.drive.specs.declared.Change.{Change}
use Rattle.drive.specs.declared.Change.TheVariants as change
use Rattle.drive.specs.declared.Part.{Part}
use Rattle.drive.specs.declared.Part.TheVariants as part
use Rattle.drive.specs.declared.Turn.{Turn}
use Rattle.drive.specs.Results.{in_phase, with_marks, say, finish, altered}
use Rattle.drive.specs.Retries.{met}

-- Begins a trial: asks for its write. "the block is rewritten"
abbrev pub begin : State → Change → Trial → Part → Turn
begin l c r p =
    record { state = with_marks l (altered l.marks c) (phase.Awaiting (access.TrialWrite r)); answer = answer.Write r.sector; change = c; leaves = record { status = None; part = p } }

-- THE NEXT SPARE

-- Returns the trial of a spare's sector for a block, before its first reread, and that of spare n.
abbrev pub on_sector : Sector → Block → Seen → Cause → Cause → Trial
on_sector k b s before present =
    record { block = b; sector = k; spare = true; rereads = 0; failures = 0; seen = s; last = cause.Unknown; before = before; present = present }

abbrev pub on_spare : ℕ → Block → Seen → Cause → Cause → Trial
on_spare n b s before present = on_sector (spare_of n) b s before present

-- Says whether a spare is unused, with n listed.
abbrev pub has_unused : ℕ → Bool
has_unused n = ltb n 32

-- Goes to the next unused spare, with n listed by now. "each spare gets it once": the trial; "No spare unused: status 2 bit 6,
-- fail." before is the command's last failure, and so the one "before its spare was tried"; present the last on the block's
-- present sector.
unfoldable pub next_spare : ℕ → State → Change → Block → Seen → Cause → Cause → Turn
next_spare n l c b s before present = cond (has_unused n) (begin l c (on_spare n b s before present) part.Kept) (finish l c ending.NoSpare s part.Kept)

-- Leaves a sector that failed, where its last failure is last. "more than 30 failures move it"; "A spare that fails becomes
-- dead"; document 02, request 6: "for a dead one the last on that spare"
unfoldable pub missed : State → Table → Trial → Seen → Cause → Turn
missed l t r s last =
    cond r.spare (next_spare (t.nspares + 1) l (change.Kill last) r.block s last r.present)
    (next_spare t.nspares l change.Keep r.block s last last)

-- HOW A TRIAL ENDS

-- Stops a trial. "Answer 3 to any access of a command ends it: bits 4, 0, latch until the next start; a spare under trial
-- becomes dead." Its cause is 3: "no settle".
unfoldable pub stopped : State → Trial → Turn
stopped l r = finish l (cond r.spare (change.Kill cause.NoSettle) change.Keep) ending.Latched r.seen part.Kept

-- Ends a trial that passed. "Success on a spare lists the block there, kills its old entry, sets status 2 bit 2." "Success
-- removes the block from the bad list, order kept." The new entry's cause is the last failure before this spare was tried, the
-- old one's the last on the sector that the block leaves.
unfoldable pub verified : State → Table → Trial → Turn
verified l t r =
    cond r.spare (finish l (change.Move r.block r.before r.present) ending.Moved r.seen part.Kept)
    (finish l (cond (member_of r.block.0 (bad_list t)) (change.Remove r.block) change.Keep) ending.Good r.seen part.Kept)

-- THE ANSWERS

-- Returns what the answer to a trial's write leads to: "A timeout on any write to a block's sector or a spare [..] goes straight
-- to the next spare"
unfoldable pub tried : State → Table → Trial → ℕ → Turn
tried l t r a =
    cond (eqb a 0) (say (in_phase l (phase.Awaiting (access.TrialRead r))) (answer.Read r.sector))
    (cond (eqb a 3) (stopped l r) (missed l t r (met a r.seen) cause.Timeout))

-- Returns the error that an answer to a verify or a reread counts as, 0 for none: "it verifies on answer 0 with bytes equal to the
-- data part (differing ones count as a CRC error"). equal: answer 0 and equal bytes.
abbrev pub fault : ℕ → Bool → ℕ
fault a equal = cond equal 0 (cond (eqb a 0) 1 a)

-- Returns the last failure, after an answer that counts as such an error.
unfoldable pub last_after : ℕ → Cause → Cause
last_after error last = cond (eqb error 0) last (cond (eqb error 2) cause.Timeout cause.Crc)

-- Returns the trial with one reread more.
abbrev pub counted : Trial → ℕ → Bool → Trial
counted r a equal =
    record {
      block = r.block;
      sector = r.sector;
      spare = r.spare;
      rereads = r.rereads + 1;
      failures = r.failures + cond equal 0 1;
      seen = met (fault a equal) r.seen;
      last = last_after (fault a equal) r.last;
      before = r.before;
      present = r.present;
    }

-- Says whether a reread is left: "reread 100 times"
abbrev pub has_reread : Trial → Bool
has_reread r = ltb r.rereads 100

-- Says whether the sector is good enough: "more than 30 failures move it"
abbrev pub is_sound : Trial → Bool
is_sound r = leb r.failures 30

-- Goes on after a reread: asks for the next, or ends the trial.
unfoldable pub judged : State → Table → Trial → Turn
judged l t r =
    cond (has_reread r) (say (in_phase l (phase.Awaiting (access.TrialRead r))) (answer.Read r.sector))
    (cond (is_sound r) (verified l t r) (missed l t r r.seen r.last))

-- Returns what the answer to a reread leads to.
unfoldable pub checked : State → Table → Trial → ℕ → Bool → Turn
checked l t r a equal = cond (eqb a 3) (stopped l r) (judged l t (counted r a equal))
