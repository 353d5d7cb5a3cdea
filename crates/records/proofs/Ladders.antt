-- THE LADDERS OF THE DEFINITIONS, each with one cases law: a property of its result follows from one named field for each rung. A
-- field is given what the tests up to its rung have said. A new rung is one more field here, and one more in each proof that
-- cites the law.
use mathlib.Core.Path.{◌≡◌}
use mathlib.Core.Bool.{Bool, true, false, cond, not, ◌&&◌}
use mathlib.Core.List.{List}
use Prim.Native.Nat.{ℕ, ◌+◌}
use lib.Dec.{eqb, ltb, leb}
use lib.ListN.{length}
use Rattle.logic.proofs.Bools.{branch}
use Rattle.geometry.specs.Geometry.{is_block, table_sector}
use Rattle.geometry.specs.declared.Block.{Block}
use Rattle.lists.specs.Lists.{member_of}
use Rattle.table.specs.declared.Table.{Table}
use Rattle.table.specs.Tables.{spare_list, bad_list}
use Rattle.image.specs.Images.{run_of}
use Rattle.drive.specs.declared.Access.TheVariants as access
use Rattle.drive.specs.declared.Answer.TheVariants as answer
use Rattle.drive.specs.declared.Cause.{Cause}
use Rattle.drive.specs.declared.Cause.TheVariants as cause
use Rattle.drive.specs.declared.Change.{Change}
use Rattle.drive.specs.declared.Change.TheVariants as change
use Rattle.drive.specs.declared.Drive.{Drive}
use Rattle.drive.specs.declared.Ending.{Ending}
use Rattle.drive.specs.declared.Ending.TheVariants as ending
use Rattle.drive.specs.declared.Kind.{Kind}
use Rattle.drive.specs.declared.Offer.{Offer}
use Rattle.drive.specs.declared.Offer.TheVariants as offer
use Rattle.drive.specs.declared.Order.{Order}
use Rattle.drive.specs.declared.Outcome.{Outcome}
use Rattle.drive.specs.declared.Outcome.TheVariants as outcome
use Rattle.drive.specs.declared.Part.{Part}
use Rattle.drive.specs.declared.Part.TheVariants as part
use Rattle.drive.specs.declared.Phase.TheVariants as phase
use Rattle.drive.specs.declared.Refusal.TheVariants as refusal
use Rattle.drive.specs.declared.Retry.{Retry}
use Rattle.drive.specs.declared.Seen.{Seen}
use Rattle.drive.specs.declared.State.{State}
use Rattle.drive.specs.declared.Target.{Target}
use Rattle.drive.specs.declared.Trial.{Trial}
use Rattle.drive.specs.declared.Turn.{Turn}
use Rattle.drive.specs.Words.{is_read, is_write, is_verify}
use Rattle.drive.specs.Records.{record_ok}
use Rattle.drive.specs.Results.{stored_image, Out, in_phase, say, refuse, ended, clean, report, ends, asks_store, stores, wants_store, finish, on_present, guarded}
use Rattle.drive.specs.Handshake.{offer_for, first_read, first_write, first_trial, is_listed, writes, too_long, asks_buffer, asks_table, asks_health, no_number, health, overruns, acted, goes_on, broken_off, lowered}
use Rattle.drive.specs.Retries.{met, passed, failed, goes_on_reading, after_read}
use Rattle.drive.specs.Sparing.{begin, on_spare, has_unused, next_spare, missed, stopped, verified, tried, fault, counted, has_reread, is_sound, judged, checked}
use Rattle.drive.specs.Access.{answer_fits, bytes_fit, fitting, with_table, is_taken, start_answered, has_room, lost, is_below, settled, write_answered, verify_answered}
use Rattle.drive.specs.Calls.{image_says, image_out_of}

-- CODES 1 AND 2, CODES 4 AND 5

pub record Guarded (P : Turn → Type 0) (ok : Bool) (n : ℕ) (l : State) (x : Turn) : Type 0 where
  pub damaged : ok ≡ false → P (refuse refusal.Record l)
  pub length : ok ≡ true → eqb n 536 ≡ false → P (refuse refusal.Buffer l)
  pub passes : ok ≡ true → eqb n 536 ≡ true → P x

pub guarded_cases : (P : Turn → Type 0) (ok : Bool) (n : ℕ) (l : State) (x : Turn) → Guarded P ok n l x → P (guarded ok n l x)
guarded_cases P ok n l x z = branch P ok (λ e. branch P (eqb n 536) (λ f. z.passes e f) (λ f. z.length e f)) (λ e. z.damaged e)

pub record Fitting (P : Turn → Type 0) (read : Bool) (l : State) (a n : ℕ) (x : Turn) : Type 0 where
  pub answer : answer_fits read a ≡ false → P (refuse refusal.Answer l)
  pub bytes : answer_fits read a ≡ true → bytes_fit read a n ≡ false → P (refuse refusal.Bytes l)
  pub fits : answer_fits read a ≡ true → bytes_fit read a n ≡ true → P x

pub fitting_cases : (P : Turn → Type 0) (read : Bool) (l : State) (a n : ℕ) (x : Turn) → Fitting P read l a n x → P (fitting read l a n x)
unfolding fitting
fitting_cases P read l a n x z = branch P (answer_fits read a) (λ e. branch P (bytes_fit read a n) (λ f. z.fits e f) (λ f. z.bytes e f)) (λ e. z.answer e)

-- THE HANDSHAKE

pub record OfferFor (P : Offer → Type 0) (k : Kind) (n : ℕ) : Type 0 where
  pub read : (is_read k && leb 6 n) ≡ true → P offer.Read
  pub write : (is_write k && leb 4 n) ≡ true → P offer.Write
  pub verify : (is_verify k && leb 4 n) ≡ true → P offer.Verify
  pub none : P offer.Command

pub offer_for_cases : (P : Offer → Type 0) (k : Kind) (n : ℕ) → OfferFor P k n → P (offer_for k n)
unfolding offer_for
offer_for_cases P k n z =
    branch P (is_read k && leb 6 n) z.read
    (λ e. branch P (is_write k && leb 4 n) z.write (λ f. branch P (is_verify k && leb 4 n) z.verify (λ g. z.none)))

-- THE END OF A COMMAND FOR A BLOCK

pub record Finish (P : Turn → Type 0) (l : State) (c : Change) (e : Ending) (s : Seen) (p : Part) : Type 0 where
  pub asks : stores (ended l.marks c e) ≡ true → P (asks_store l (ended l.marks c e) c e s p)
  pub reports : stores (ended l.marks c e) ≡ false → P (report l (ended l.marks c e) c e s (wants_store (ended l.marks c e)) false p)

pub finish_cases : (P : Turn → Type 0) (l : State) (c : Change) (e : Ending) (s : Seen) (p : Part) → Finish P l c e s p → P (finish l c e s p)
unfolding finish
finish_cases P l c e s p z = branch P (stores (ended l.marks c e)) z.asks z.reports

-- ACTING ON A COMMAND

pub record Overruns (P : Turn → Type 0) (o : Order) (l : State) : Type 0 where
  pub block : is_block o.number ≡ true → P (finish l change.Keep ending.Overrun clean part.Kept)
  pub no_block : is_block o.number ≡ false → P (ends l ending.Overrun part.Kept)

pub overruns_cases : (P : Turn → Type 0) (o : Order) (l : State) → Overruns P o l → P (overruns o l)
unfolding overruns
overruns_cases P o l z = branch P (is_block o.number) z.block z.no_block

-- Says that no rule before the block's own applies.
pub record OnBlock (o : Order) (l : State) : Type 0 where
  pub short : too_long l ≡ false
  pub number : no_number o.kind o.number ≡ false
  pub not_buffer : asks_buffer o.number ≡ false
  pub known : not l.marks.known ≡ false
  pub not_table : asks_table o.number ≡ false
  pub not_health : asks_health o.number ≡ false

pub record Acted (P : Turn → Type 0) (o : Order) (l : State) (t : Table) : Type 0 where
  pub overrun : too_long l ≡ true → Overruns P o l
  pub no_block : too_long l ≡ false → no_number o.kind o.number ≡ true → P (ends l ending.NoNumber part.Kept)
  pub buffer : no_number o.kind o.number ≡ false → asks_buffer o.number ≡ true → P (ends l ending.Good part.Kept)
  pub no_table : asks_buffer o.number ≡ false → not l.marks.known ≡ true → P (ends l (ending.NoTable (not (is_read o.kind))) part.Kept)
  pub table : not l.marks.known ≡ false → asks_table o.number ≡ true → P (ends l ending.Good part.Image)
  pub health : not l.marks.known ≡ false → asks_health o.number ≡ true
      → P (ends l ending.Good (part.Figures (health t.nspares t.nbads l.marks)))
  pub read : OnBlock o l → is_read o.kind ≡ true → P (first_read o l (spare_list t))
  pub latched : OnBlock o l → is_read o.kind ≡ false → l.marks.latch ≡ true → P (finish l change.Keep ending.Latched clean part.Kept)
  pub listed : OnBlock o l → is_read o.kind ≡ false → l.marks.latch ≡ false → is_listed o t ≡ true → P (first_trial o l (spare_list t))
  pub write : OnBlock o l → is_read o.kind ≡ false → l.marks.latch ≡ false → is_listed o t ≡ false → P (first_write o l (spare_list t))

pub acted_cases : (P : Turn → Type 0) (o : Order) (l : State) (t : Table) → Acted P o l t → P (acted o l t)
unfolding acted writes
acted_cases P o l t z =
    branch P (too_long l) (λ e0. overruns_cases P o l (z.overrun e0))
    (λ e0. branch P (no_number o.kind o.number) (z.no_block e0)
    (λ e1. branch P (asks_buffer o.number) (z.buffer e1)
    (λ e2. branch P (not l.marks.known) (z.no_table e2)
    (λ e3. branch P (asks_table o.number) (z.table e3)
    (λ e4. branch P (asks_health o.number) (z.health e3)
    (λ e5. on_block (record { short = e0; number = e1; not_buffer = e2; known = e3; not_table = e4; not_health = e5 })))))))
  where
    on_block : OnBlock o l → P (cond (is_read o.kind) (first_read o l (spare_list t)) (cond l.marks.latch (finish l change.Keep ending.Latched clean part.Kept) (cond (is_listed o t) (first_trial o l (spare_list t)) (first_write o l (spare_list t)))))
    on_block b =
        branch P (is_read o.kind) (z.read b)
        (λ e. branch P l.marks.latch (z.latched b e) (λ f. branch P (is_listed o t) (z.listed b e f) (z.write b e f)))

-- LOWER

pub record Lowered (P : Turn → Type 0) (o : Offer) (l : State) (t : Table) (b : ℕ) : Type 0 where
  pub goes : eqb b 0x55 ≡ true → P (goes_on o l t)
  pub breaks : eqb b 0x55 ≡ false → P (broken_off l)

pub lowered_cases : (P : Turn → Type 0) (o : Offer) (l : State) (t : Table) (b : ℕ) → Lowered P o l t b → P (lowered (phase.Offered o) l t b)
unfolding lowered
lowered_cases P o l t b z = branch P (eqb b 0x55) z.goes z.breaks

-- SPARING

pub record NextSpare (P : Turn → Type 0) (n : ℕ) (l : State) (c : Change) (b : Block) (s : Seen) (x y : Cause) : Type 0 where
  pub spare : has_unused n ≡ true → P (begin l c (on_spare n b s x y) part.Kept)
  pub no_spare : has_unused n ≡ false → P (finish l c ending.NoSpare s part.Kept)

pub next_spare_cases : (P : Turn → Type 0) (n : ℕ) (l : State) (c : Change) (b : Block) (s : Seen) (x y : Cause) → NextSpare P n l c b s x y → P (next_spare n l c b s x y)
unfolding next_spare
next_spare_cases P n l c b s x y z = branch P (has_unused n) z.spare z.no_spare

pub record Missed (P : Turn → Type 0) (l : State) (t : Table) (r : Trial) (s : Seen) (x : Cause) : Type 0 where
  pub dead : r.spare ≡ true → NextSpare P (t.nspares + 1) l (change.Kill x) r.block s x r.present
  pub left : r.spare ≡ false → NextSpare P t.nspares l change.Keep r.block s x x

pub missed_cases : (P : Turn → Type 0) (l : State) (t : Table) (r : Trial) (s : Seen) (x : Cause) → Missed P l t r s x → P (missed l t r s x)
unfolding missed
missed_cases P l t r s x z =
    branch P r.spare (λ e. next_spare_cases P _ l (change.Kill x) r.block s x r.present (z.dead e))
    (λ e. next_spare_cases P _ l change.Keep r.block s x x (z.left e))

pub record Stopped (P : Turn → Type 0) (l : State) (r : Trial) : Type 0 where
  pub dead : r.spare ≡ true → P (finish l (change.Kill cause.NoSettle) ending.Latched r.seen part.Kept)
  pub present : r.spare ≡ false → P (finish l change.Keep ending.Latched r.seen part.Kept)

pub stopped_cases : (P : Turn → Type 0) (l : State) (r : Trial) → Stopped P l r → P (stopped l r)
unfolding stopped
stopped_cases P l r z = branch (λ (c : Change). P (finish l c ending.Latched r.seen part.Kept)) r.spare z.dead z.present

pub record Verified (P : Turn → Type 0) (l : State) (t : Table) (r : Trial) : Type 0 where
  pub moved : r.spare ≡ true → P (finish l (change.Move r.block r.before r.present) ending.Moved r.seen part.Kept)
  pub listed : r.spare ≡ false → member_of r.block.0 (bad_list t) ≡ true → P (finish l (change.Remove r.block) ending.Good r.seen part.Kept)
  pub stays : r.spare ≡ false → member_of r.block.0 (bad_list t) ≡ false → P (finish l change.Keep ending.Good r.seen part.Kept)

pub verified_cases : (P : Turn → Type 0) (l : State) (t : Table) (r : Trial) → Verified P l t r → P (verified l t r)
unfolding verified
verified_cases P l t r z =
    branch P r.spare z.moved
    (λ e. branch (λ (c : Change). P (finish l c ending.Good r.seen part.Kept)) (member_of r.block.0 (bad_list t)) (z.listed e) (z.stays e))

pub record Tried (P : Turn → Type 0) (l : State) (t : Table) (r : Trial) (a : ℕ) : Type 0 where
  pub done : eqb a 0 ≡ true → P (say (in_phase l (phase.Awaiting (access.TrialRead r))) (answer.Read r.sector))
  pub stops : eqb a 3 ≡ true → Stopped P l r
  pub fails : eqb a 0 ≡ false → eqb a 3 ≡ false → Missed P l t r (met a r.seen) cause.Timeout

pub tried_cases : (P : Turn → Type 0) (l : State) (t : Table) (r : Trial) (a : ℕ) → Tried P l t r a → P (tried l t r a)
unfolding tried
tried_cases P l t r a z =
    branch P (eqb a 0) z.done
    (λ e. branch P (eqb a 3) (λ f. stopped_cases P l r (z.stops f)) (λ f. missed_cases P l t r (met a r.seen) cause.Timeout (z.fails e f)))

pub record Judged (P : Turn → Type 0) (l : State) (t : Table) (r : Trial) : Type 0 where
  pub again : has_reread r ≡ true → P (say (in_phase l (phase.Awaiting (access.TrialRead r))) (answer.Read r.sector))
  pub passes : has_reread r ≡ false → is_sound r ≡ true → Verified P l t r
  pub fails : has_reread r ≡ false → is_sound r ≡ false → Missed P l t r r.seen r.last

pub judged_cases : (P : Turn → Type 0) (l : State) (t : Table) (r : Trial) → Judged P l t r → P (judged l t r)
unfolding judged
judged_cases P l t r z =
    branch P (has_reread r) z.again
    (λ e. branch P (is_sound r) (λ f. verified_cases P l t r (z.passes e f)) (λ f. missed_cases P l t r r.seen r.last (z.fails e f)))

pub record Checked (P : Turn → Type 0) (l : State) (t : Table) (r : Trial) (a : ℕ) (equal : Bool) : Type 0 where
  pub stops : eqb a 3 ≡ true → Stopped P l r
  pub counts : eqb a 3 ≡ false → Judged P l t (counted r a equal)

pub checked_cases : (P : Turn → Type 0) (l : State) (t : Table) (r : Trial) (a : ℕ) (equal : Bool) → Checked P l t r a equal → P (checked l t r a equal)
unfolding checked
checked_cases P l t r a equal z = branch P (eqb a 3) (λ e. stopped_cases P l r (z.stops e)) (λ e. judged_cases P l t (counted r a equal) (z.counts e))

-- THE START

pub record StartAnswered (P : Turn → Type 0) (k : ℕ) (l : State) (a : ℕ) (bs : List ℕ) : Type 0 where
  pub table : is_taken a bs ≡ true → P (with_table l (run_of bs))
  pub stops : is_taken a bs ≡ false → eqb a 3 ≡ true → P (say (in_phase l phase.Idle) answer.Wait)
  pub again : is_taken a bs ≡ false → ltb k 10 ≡ true → P (say (in_phase l (phase.Awaiting (access.Start (k + 1)))) (answer.Read table_sector))
  pub gives_up : is_taken a bs ≡ false → ltb k 10 ≡ false → P (say (in_phase l phase.Idle) answer.Wait)

pub start_cases : (P : Turn → Type 0) (k : ℕ) (l : State) (a : ℕ) (bs : List ℕ) → StartAnswered P k l a bs → P (start_answered k l a bs)
unfolding start_answered
start_cases P k l a bs z =
    branch P (is_taken a bs) z.table (λ e. branch P (eqb a 3) (z.stops e) (λ f. branch P (ltb k 10) (z.again e) (z.gives_up e)))

-- A READ COMMAND

pub record Lost (P : Turn → Type 0) (l : State) (t : Table) (r : Retry) (p : Part) : Type 0 where
  pub listed : member_of r.block.0 (bad_list t) ≡ true → P (finish l change.Keep ending.Failed r.seen p)
  pub entered : member_of r.block.0 (bad_list t) ≡ false → has_room t ≡ true → P (finish l (change.Enter r.block) ending.Failed r.seen p)
  pub full : member_of r.block.0 (bad_list t) ≡ false → has_room t ≡ false → P (finish l change.Keep ending.BadFull r.seen p)

pub lost_cases : (P : Turn → Type 0) (l : State) (t : Table) (r : Retry) (p : Part) → Lost P l t r p → P (lost l t r p)
unfolding lost
lost_cases P l t r p z = branch P (member_of r.block.0 (bad_list t)) z.listed (λ e. branch P (has_room t) (z.entered e) (z.full e))

pub record Settled (P : Turn → Type 0) (l : State) (r : Retry) (p : Part) : Type 0 where
  pub below : is_below r ≡ true → P (finish l change.Keep ending.Good r.seen p)
  pub latched : is_below r ≡ false → l.marks.latch ≡ true → P (finish l change.Keep ending.Latched r.seen p)
  pub tries : is_below r ≡ false → l.marks.latch ≡ false → P (begin l change.Keep (on_present r.block r.sector r.seen) p)

pub settled_cases : (P : Turn → Type 0) (l : State) (r : Retry) (p : Part) → Settled P l r p → P (settled l r p)
unfolding settled
settled_cases P l r p z = branch P (is_below r) z.below (λ e. branch P l.marks.latch (z.latched e) (z.tries e))

pub record GoesOnReading (P : Outcome → Type 0) (r : Retry) : Type 0 where
  pub reread : ltb 0 r.left ≡ true → P (outcome.Again r)
  pub settles : ltb 0 r.left ≡ false → r.good ≡ true → P (outcome.Settle r)
  pub further : ltb 0 r.left ≡ false → r.good ≡ false → ltb r.spent 90 ≡ true → P (outcome.Again r)
  pub loses : ltb 0 r.left ≡ false → r.good ≡ false → ltb r.spent 90 ≡ false → P (outcome.Lost r)

pub goes_on_cases : (P : Outcome → Type 0) (r : Retry) → GoesOnReading P r → P (goes_on_reading r)
unfolding goes_on_reading
goes_on_cases P r z =
    branch P (ltb 0 r.left) z.reread (λ e. branch P r.good (z.settles e) (λ f. branch P (ltb r.spent 90) (z.further e f) (z.loses e f)))

pub record AfterRead (P : Outcome → Type 0) (r : Retry) (a : ℕ) : Type 0 where
  pub done : eqb a 0 ≡ true → r.first ≡ true → P (outcome.Done r)
  pub passes : eqb a 0 ≡ true → r.first ≡ false → GoesOnReading P (passed r)
  pub stops : eqb a 0 ≡ false → eqb a 3 ≡ true → P (outcome.Stop r)
  pub fails : eqb a 0 ≡ false → eqb a 3 ≡ false → GoesOnReading P (failed r a)

pub after_read_cases : (P : Outcome → Type 0) (r : Retry) (a : ℕ) → AfterRead P r a → P (after_read r a)
unfolding after_read
after_read_cases P r a z =
    branch P (eqb a 0) (λ e. branch P r.first (z.done e) (λ f. goes_on_cases P (passed r) (z.passes e f)))
    (λ e. branch P (eqb a 3) (z.stops e) (λ f. goes_on_cases P (failed r a) (z.fails e f)))

-- A WRITE AND ITS VERIFY

pub record WriteAnswered (P : Turn → Type 0) (l : State) (t : Table) (w : Target) (a : ℕ) : Type 0 where
  pub verifies : eqb a 0 ≡ true → w.verify ≡ true → P (say (in_phase l (phase.Awaiting (access.Verify w))) (answer.Read w.sector))
  pub done : eqb a 0 ≡ true → w.verify ≡ false → P (finish l change.Keep ending.Good clean part.Kept)
  pub stops : eqb a 0 ≡ false → eqb a 3 ≡ true → P (finish l change.Keep ending.Latched clean part.Kept)
  pub moves : eqb a 0 ≡ false → eqb a 3 ≡ false → NextSpare P t.nspares l change.Keep w.block (met a clean) cause.Timeout cause.Timeout

pub write_cases : (P : Turn → Type 0) (l : State) (t : Table) (w : Target) (a : ℕ) → WriteAnswered P l t w a → P (write_answered l t w a)
unfolding write_answered
write_cases P l t w a z =
    branch P (eqb a 0) (λ e. branch P w.verify (z.verifies e) (z.done e))
    (λ e. branch P (eqb a 3) (z.stops e) (λ f. next_spare_cases P _ l change.Keep w.block (met a clean) cause.Timeout cause.Timeout (z.moves e f)))

pub record VerifyAnswered (P : Turn → Type 0) (l : State) (w : Target) (a : ℕ) (equal : Bool) : Type 0 where
  pub stops : eqb a 3 ≡ true → P (finish l change.Keep ending.Latched clean part.Kept)
  pub done : eqb a 3 ≡ false → equal ≡ true → P (finish l change.Keep ending.Good clean part.Kept)
  pub fails : eqb a 3 ≡ false → equal ≡ false → P (begin l change.Keep (on_present w.block w.sector (met (fault a equal) clean)) part.Kept)

pub verify_cases : (P : Turn → Type 0) (l : State) (w : Target) (a : ℕ) (equal : Bool) → VerifyAnswered P l w a equal → P (verify_answered l w a equal)
unfolding verify_answered
verify_cases P l w a equal z = branch P (eqb a 3) z.stops (λ e. branch P equal (z.done e) (z.fails e))

-- IMAGE

pub record Imaged (P : Out → Type 0) (d : Drive) (u : List ℕ) : Type 0 where
  pub damaged : record_ok d ≡ false → P (image_says d (answer.Refused refusal.Record) u)
  pub length : record_ok d ≡ true → eqb (length u) 532 ≡ false → P (image_says d (answer.Refused refusal.Buffer) u)
  pub no_table : record_ok d ≡ true → d.state.marks.known ≡ false → P (image_says d (answer.Refused refusal.Place) u)
  pub given : record_ok d ≡ true → d.state.marks.known ≡ true → P (image_says d answer.Wait (stored_image d))

pub image_cases : (P : Out → Type 0) (d : Drive) (u : List ℕ) → Imaged P d u → P (image_out_of d u)
unfolding image_out_of
image_cases P d u z =
    branch P (record_ok d) (λ o. branch P (eqb (length u) 532) (λ e. branch P d.state.marks.known (z.given o) (z.no_table o)) (z.length o)) z.damaged
