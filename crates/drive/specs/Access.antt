-- Document 01: the surface answered an access. The codes 4 and 5, the start's reads, "Read", and "Write" with
-- request 4 of document 02; the store with request 7.
use Rattle.std.specs.Prelude.{Bool, true, cond, not, ◌&&◌, ◌||◌, List, ℕ, ◌+◌, ltb, leb, eqb, length, None}
use Rattle.geometry.specs.Geometry.{table_sector}
use Rattle.lists.specs.Lists.{member_of}
use Rattle.table.specs.declared.Table.{Table}
use Rattle.table.specs.Tables.{bad_list}
use Rattle.image.specs.Images.{well_formed, run_of}
use Rattle.drive.specs.declared.State.{State}
use Rattle.drive.specs.declared.Marks.{Marks}
use Rattle.drive.specs.declared.Retry.{Retry}
use Rattle.drive.specs.declared.Target.{Target}
use Rattle.drive.specs.declared.Close.{Close}
use Rattle.drive.specs.declared.Outcome.{Outcome}
use Rattle.drive.specs.declared.Outcome.TheVariants as outcome
use Rattle.drive.specs.declared.Access.{Access}
use Rattle.drive.specs.declared.Access.TheVariants as access
use Rattle.drive.specs.declared.Phase.{Phase}
use Rattle.drive.specs.declared.Phase.TheVariants as phase
use Rattle.drive.specs.declared.Answer.TheVariants as answer
use Rattle.drive.specs.declared.Refusal.TheVariants as refusal
use Rattle.drive.specs.declared.Ending.TheVariants as ending
use Rattle.drive.specs.declared.Cause.TheVariants as cause
use Rattle.drive.specs.declared.Change.TheVariants as change
use Rattle.drive.specs.declared.Part.{Part}
use Rattle.drive.specs.declared.Part.TheVariants as part
use Rattle.drive.specs.declared.Turn.{Turn}
use Rattle.drive.specs.Records.{awaits, of_access}
use Rattle.drive.specs.Results.{in_phase, with_marks, with_run, refuse, say, report, finish, untouched, clean, on_present}
use Rattle.drive.specs.Retries.{met, after_read}
use Rattle.drive.specs.Sparing.{begin, next_spare, fault, tried, checked}

-- Says whether an access reads.
abbrev pub asks_read : Access → Bool
asks_read x = (of_access x).reads

-- Says whether code 4 does not apply. "surface answer above 3, or 1 to a write"
abbrev pub answer_fits : Bool → ℕ → Bool
answer_fits read a = leb a 3 && (read || not (eqb a 1))

-- Says whether code 5 does not apply to n bytes. "bytes not 532 with a read's 0 or 1, not 0 otherwise"
abbrev pub bytes_fit : Bool → ℕ → ℕ → Bool
bytes_fit read a n = eqb n (cond (read && leb a 1) 532 0)

-- Refuses with code 4 or 5, in this order, or turns as the rule says.
unfoldable pub fitting : Bool → State → ℕ → ℕ → Turn → Turn
fitting read l a n x = cond (answer_fits read a) (cond (bytes_fit read a n) x (refuse refusal.Bytes l)) (refuse refusal.Answer l)

-- THE START: "It reads until a well-formed image comes with answer 0, at most 10 times; answer 3 ends it, without a latch.
-- Then it waits, idle, with the table or with none." "table bytes never enter the buffer"

-- Ends the start with the table that was read, and its run number.
abbrev pub with_table : State → ℕ → Turn
with_table l run =
    record { state = with_marks (with_run l run) (record { known = true; changed = l.marks.changed; moved = l.marks.moved; latch = l.marks.latch; fresh = l.marks.fresh }) phase.Idle; answer = answer.Wait; change = change.Load; leaves = untouched }

-- Says whether a well-formed image came.
abbrev pub is_taken : ℕ → List ℕ → Bool
is_taken a bs = eqb a 0 && well_formed bs

-- Returns what the answer to read k of the start leads to.
unfoldable pub start_answered : ℕ → State → ℕ → List ℕ → Turn
start_answered k l a bs =
    cond (is_taken a bs) (with_table l (run_of bs))
    (cond (eqb a 3) (say (in_phase l phase.Idle) answer.Wait)
    (cond (ltb k 10) (say (in_phase l (phase.Awaiting (access.Start (k + 1)))) (answer.Read table_sector)) (say (in_phase l phase.Idle) answer.Wait)))

-- THE STORE before a command finishes: "if done, stored"; document 02, request 7: "reports failed (bit 0) unless that store is
-- done; answer 3 to it latches."

-- Says whether the store is not done.
abbrev pub is_undone : ℕ → Bool
is_undone a = not (eqb a 0)

-- Returns the marks after the store's answer. "only a done store or a start clears the mark", and so it is with a place's.
abbrev pub store_marks : Marks → ℕ → Marks
store_marks m a =
    record { known = m.known; changed = m.changed && is_undone a; moved = m.moved && is_undone a; latch = m.latch || eqb a 3; fresh = m.fresh }

-- Returns what the answer to the store leads to: the command finishes as it ended, with what the store met.
unfoldable pub store_answered : Close → State → ℕ → Turn
store_answered k l a =
    report l (store_marks l.marks a) change.Keep k.ending (met a k.seen) (is_undone a) (eqb a 3) part.Kept

-- READ

-- Returns what becomes of the data part. "The first good bytes stay in the data part; until then bytes of answer 1 replace it."
unfoldable pub kept_part : Retry → ℕ → Part
kept_part r a = cond (leb a 1 && not r.good) (part.Filled 0) part.Kept

-- Says whether the bad list has room.
abbrev pub has_room : Table → Bool
has_room t = ltb t.nbads 100

-- Ends a read that never was good. "None good at all: enter the block at the end of the bad list unless listed (100 held:
-- status 2 bit 4), bit 0."
unfoldable pub lost : State → Table → Retry → Part → Turn
lost l t r p =
    cond (member_of r.block.0 (bad_list t)) (finish l change.Keep ending.Failed r.seen p)
    (cond (has_room t) (finish l (change.Enter r.block) ending.Failed r.seen p) (finish l change.Keep ending.BadFull r.seen p))

-- Says whether E is below T.
abbrev pub is_below : Retry → Bool
is_below r = ltb r.seen.errors r.threshold

-- Ends a read that was good after errors, or begins the trial of its sector. "Good with E < T: done."; "Latch: fail, bit 4.";
-- document 02, request 4: "Where a read reaches the threshold, the block is rewritten and reread 100 times"
unfoldable pub settled : State → Retry → Part → Turn
settled l r p =
    cond (is_below r) (finish l change.Keep ending.Good r.seen p)
    (cond l.marks.latch (finish l change.Keep ending.Latched r.seen p)
    (begin l change.Keep (on_present r.block r.sector r.seen) p))

-- Returns what each outcome of a read leads to.
unfoldable pub reads : Outcome → State → Table → Part → Turn
reads (outcome.Done r) l t p = finish l change.Keep ending.Good r.seen p
reads (outcome.Again r) l t p =
    record { state = in_phase l (phase.Awaiting (access.Read r)); answer = answer.Read r.sector; change = change.Keep; leaves = record { status = None; part = p } }
reads (outcome.Settle r) l t p = settled l r p
reads (outcome.Lost r) l t p = lost l t r p
reads (outcome.Stop r) l t p = finish l change.Keep ending.Latched r.seen p

-- WRITE AND WRITE/VERIFY of a block that is not in the bad list

-- Goes on after a write that was done: a plain write is done with it, a write/verify reads it back.
abbrev pub written : State → Target → Turn
written l w =
    cond w.verify (say (in_phase l (phase.Awaiting (access.Verify w))) (answer.Read w.sector)) (finish l change.Keep ending.Good clean part.Kept)

-- Returns what the answer to the write leads to. Document 02, request 4: "A timeout on any write to a block's sector or a
-- spare, a plain write's included, goes straight to the next spare"
unfoldable pub write_answered : State → Table → Target → ℕ → Turn
write_answered l t w a =
    cond (eqb a 0) (written l w)
    (cond (eqb a 3) (finish l change.Keep ending.Latched clean part.Kept) (next_spare t.nspares l change.Keep w.block (met a clean) cause.Timeout cause.Timeout))

-- Returns what the answer to the first verify leads to: "A write/verify whose first verify fails gets that trial too"
unfoldable pub verify_answered : State → Target → ℕ → Bool → Turn
verify_answered l w a equal =
    cond (eqb a 3) (finish l change.Keep ending.Latched clean part.Kept)
    (cond equal (finish l change.Keep ending.Good clean part.Kept)
    (begin l change.Keep (on_present w.block w.sector (met (fault a equal) clean)) part.Kept))

-- Returns what the answer to each access leads to. equal: a verify was
-- answered 0 with the bytes of the data part.
unfoldable pub follows : Access → State → Table → ℕ → List ℕ → Bool → Turn
follows (access.Start k) l t a bs equal = start_answered k l a bs
follows (access.Store k) l t a bs equal = store_answered k l a
follows (access.Read r) l t a bs equal = reads (after_read r a) l t (kept_part r a)
follows (access.Write w) l t a bs equal = write_answered l t w a
follows (access.Verify w) l t a bs equal = verify_answered l w a equal
follows (access.TrialWrite r) l t a bs equal = tried l t r a
follows (access.TrialRead r) l t a bs equal = checked l t r a equal

-- Returns what the surface's answer does in each phase. Out of place: "no bytes or answer awaited".
unfoldable pub answered : Phase → State → Table → ℕ → List ℕ → Bool → Turn
answered phase.Idle l t a bs equal = refuse refusal.Place l
answered (phase.Offered o) l t a bs equal = refuse refusal.Place l
answered phase.Command l t a bs equal = refuse refusal.Place l
answered phase.Data l t a bs equal = refuse refusal.Place l
answered (phase.Awaiting x) l t a bs equal = fitting (asks_read x) l a (length bs) (follows x l t a bs equal)

-- Says whether what an access brings is compared with the data part.
abbrev pub is_compared : Access → Bool
is_compared x = (of_access x).verifies

-- Says whether the bytes are compared: a verify or a reread, answered 0.
abbrev pub verifies : Phase → ℕ → Bool
verifies p a = awaits is_compared p && eqb a 0
