-- A WRITE REPORTED GOOD WAS MADE: while a verify or a reread is awaited its write has gone to its sector, and each reread of a
-- trial but its failures brought the command's bytes; a plain write is good by its one write's answer; while the store of a command
-- that ended well is awaited, its write has gone where its block will be.
use mathlib.Core.Path.{◌≡◌, refl, sym, ap, ◌∙◌}
use mathlib.Core.Bool.{Bool, true, false, cond, not, ◌&&◌, ◌||◌}
use mathlib.Core.List.{List, [], ◌∷◌}
use Prim.Native.Nat.{ℕ, suc, ◌+◌, ◌≤◌}
use native.Mathlib.Omega.{arith}
use lib.Dec.{eqb}
use lib.ListN.{length}
use borrow.Author.Tests.{eq-eqb, eqb-true, ltb-false, leb-true, not-true}
use Rattle.geometry.specs.Geometry.{is_block}
use Rattle.geometry.specs.declared.Block.{Block}
use Rattle.geometry.specs.declared.Sector.{Sector}
use Rattle.logic.proofs.Bools.{branch, clash, and_left, and_right, and_true, and_false}
use Rattle.table.specs.declared.Table.{Table}
use Rattle.table.specs.Tables.{spare_list}
use Rattle.table.proofs.Placing.{not_table}
use Rattle.buffer.specs.Runs.{same}
use Rattle.buffer.proofs.Compare.{same_refl}
use Rattle.drive.specs.declared.Access.{Access}
use Rattle.drive.specs.declared.Access.TheVariants as access
use Rattle.drive.specs.declared.Answer.{Answer}
use Rattle.drive.specs.declared.Answer.TheVariants as answer
use Rattle.drive.specs.declared.Change.{Change}
use Rattle.drive.specs.declared.Close.{Close}
use Rattle.drive.specs.declared.Drive.{Drive}
use Rattle.drive.specs.declared.Marks.{Marks}
use Rattle.drive.specs.declared.Change.TheVariants as change
use Rattle.drive.specs.declared.Ending.{Ending}
use Rattle.drive.specs.declared.Ending.TheVariants as ending
use Rattle.drive.specs.declared.Offer.{Offer}
use Rattle.drive.specs.declared.Offer.TheVariants as offer
use Rattle.drive.specs.declared.Outcome.{Outcome}
use Rattle.drive.specs.declared.Outcome.TheVariants as outcome
use Rattle.drive.specs.declared.Part.{Part}
use Rattle.drive.specs.declared.Part.TheVariants as part
use Rattle.drive.specs.declared.Phase.{Phase}
use Rattle.drive.specs.declared.Phase.TheVariants as phase
use Rattle.drive.specs.declared.Refusal.{Refusal}
use Rattle.drive.specs.declared.Refusal.TheVariants as refusal
use Rattle.drive.specs.declared.Seen.{Seen}
use Rattle.drive.specs.declared.State.{State}
use Rattle.drive.specs.declared.Target.{Target}
use Rattle.drive.specs.declared.Trial.{Trial}
use Rattle.drive.specs.declared.Turn.{Turn}
use Rattle.drive.specs.Words.{data_of, kind_of, number_of, block_of, is_read, order_of, fails}
use Rattle.drive.specs.Records.{record_ok}
use Rattle.drive.specs.Results.{Out, out_of, part_left, status_left, in_phase, refuse, say, ended as at_end, report as tells, asks_store, wants_store, finish, clean, guarded}
use Rattle.drive.specs.Handshake.{raised, acted, goes_on, broken_off, lowered, fed_to, rested}
use Rattle.drive.specs.Retries.{met, after_read}
use Rattle.drive.specs.Sparing.{tried, counted, has_reread, is_sound, checked}
use Rattle.drive.specs.Access.{asks_read, verifies, start_answered, is_undone, store_marks, store_answered, reads, write_answered, verify_answered, follows, answered}
use Rattle.drive.specs.Calls.{Call, raise, lower, feed, surface, reset, raise_of, lower_of, feed_of, surface_of, reset_of, step_of, start_of}
use Rattle.drive.specs.History.{Sectors, Entry, History, blank, is_table_sector, padded, acts, underway, reports, good, moves, heard, next, begun, order}
use Rattle.drive.specs.Run.{Moment, call, power, World, made, after, Lawful, lines}
use Rattle.drive.specs.Surface.{Fate}
use Rattle.drive.specs.Made.{same_sector, Wrote, unwritten, wrote_next, good_write, IsMade, Made, WritesMade}
use Rattle.drive.specs.Views.{Bytes, Where, at, of_call, of_answer}
use Rattle.records.proofs.Ladders.{finish_cases, guarded_cases, fitting_cases, lowered_cases, tried_cases, checked_cases, start_cases, lost_cases, settled_cases, write_cases, verify_cases}
use Rattle.demands.proofs.Awaited.{of_phase}
use Rattle.demands.proofs.Statuses.{is_move, good_is, moves_is, data_ended}
use Rattle.demands.proofs.Sim.{history_of, Blocky, Shake, resting, offer1, heads, offer2, offer3, offer4, takes, offer6, Work, rereads, writing, verifying, trying, checking, Sim, at_start, at_rest, at_work, at_store, entry_of, ev}
use Rattle.demands.proofs.Books.{same_block}
use Rattle.demands.proofs.Entries.{no_learn, place_kept, place_moved, places_kept}
use Rattle.demands.proofs.Rest.{ruled, loads}
use Rattle.demands.proofs.Steps.{off_table, not_at_table, step}
use Rattle.demands.proofs.Restart.{began}
use Rattle.demands.proofs.Demand3.{sim_begins}
use Rattle.demands.proofs.ShutOut.{ends_well, unread, Bad, acts_first, Fails, ended as ends, nexts, misses, stops}

-- THE INVARIANT

-- Says that a trial's write went to its sector, and that each of its rereads but the failures was equal.
record Confirmed (r : Trial) (wrote : Wrote) : Type 0 where
  there : wrote.went ≡ at r.sector
  count : wrote.same + r.failures ≡ r.rereads

-- Returns where a block will be once the finish is told: at the sector of the last read, if it moved.
abbrev place_then : Bool → History → Where
place_then moved H = cond moved H.last_read (H.place (block_of (order H)))

-- Says that the write of a command that ended so went where its block will be, and that a move's rereads were equal.
record Settled (k : Close) (H : History) (wrote : Wrote) : Type 0 where
  sector : Sector
  there : wrote.went ≡ at sector
  place : place_then (is_move k.ending) H ≡ at sector
  reread : is_move k.ending ≡ true → 70 ≤ wrote.same

-- Says so of what is awaited. A trial's write comes before its first reread. A read's trial is of no command's bytes.
abbrev ReadyAccess : Access → History → Wrote → Type 0
ReadyAccess (access.Start k) H wrote = Unit {0}
ReadyAccess (access.Store k) H wrote = fails k.ending ≡ false → is_read (order H).kind ≡ false → Settled k H wrote
ReadyAccess (access.Read r) H wrote = Unit {0}
ReadyAccess (access.Write x) H wrote = Unit {0}
ReadyAccess (access.Verify x) H wrote = wrote.went ≡ at x.sector
ReadyAccess (access.TrialWrite r) H wrote = (r.rereads ≡ 0) × (r.failures ≡ 0)
ReadyAccess (access.TrialRead r) H wrote = is_read (order H).kind ≡ false → Confirmed r wrote

abbrev Ready : Phase → History → Wrote → Type 0
Ready p H wrote = of_phase (Unit {0}) (λ x. ReadyAccess x H wrote) p

-- Before any verify nothing is to be said.
still_ready : (p : Phase) (H : History) (wrote : Wrote) → unread p ≡ true → Ready p H wrote
still_ready phase.Idle H wrote e = tt
still_ready (phase.Offered o) H wrote e = tt
still_ready phase.Command H wrote e = tt
still_ready phase.Data H wrote e = tt
still_ready (phase.Awaiting (access.Start k)) H wrote e = tt
still_ready (phase.Awaiting (access.Store k)) H wrote e = λ f i. clash e f
still_ready (phase.Awaiting (access.Read r)) H wrote e = tt
still_ready (phase.Awaiting (access.Write x)) H wrote e = tt
still_ready (phase.Awaiting (access.Verify x)) H wrote e = clash e refl
still_ready (phase.Awaiting (access.TrialWrite r)) H wrote e =
    (eqb-true r.rereads 0 (and_left (eqb r.rereads 0) (eqb r.failures 0) e), eqb-true r.failures 0 (and_right (eqb r.rereads 0) (eqb r.failures 0) e))
still_ready (phase.Awaiting (access.TrialRead r)) H wrote e = clash e refl

-- WHAT THE HISTORY KNOWS in each phase, of all that the invariant of demand 3 says.
abbrev KnownOffer : Offer → Bytes → History → Type 0
KnownOffer offer.Command c H = Unit {0}
KnownOffer offer.Read c H = (order H).number ≡ number_of c
KnownOffer offer.Write c H = Unit {0}
KnownOffer offer.Verify c H = Unit {0}
KnownOffer offer.Act c H = (order H).number ≡ number_of c

record Offering (o : Offer) (c : Bytes) (H : History) : Type 0 where
  resting : H.acting ≡ false
  number : KnownOffer o c H

-- Of a write command's write, its verify, a trial's write and a reread: what was asked for, where the block is, and that the data
-- part is the command's bytes.
record Writing (x : Target) (u : Bytes) (H : History) : Type 0 where
  asked : H.last ≡ answer.Write x.sector
  place : H.place (block_of (order H)) ≡ at x.sector
  bytes : data_of u ≡ padded H.fed

record Verifying (x : Target) (H : History) : Type 0 where
  asked : H.last ≡ answer.Read x.sector
  sector : is_table_sector (at x.sector) ≡ false
  place : H.place (block_of (order H)) ≡ at x.sector

record Trying (r : Trial) (u : Bytes) (H : History) : Type 0 where
  asked : H.last ≡ answer.Write r.sector
  bytes : is_read (order H).kind ≡ false → data_of u ≡ padded H.fed

record Checking (r : Trial) (u : Bytes) (H : History) : Type 0 where
  asked : H.last ≡ answer.Read r.sector
  sector : is_table_sector (at r.sector) ≡ false
  read : H.last_read ≡ at r.sector
  place : r.spare ≡ false → H.place (block_of (order H)) ≡ at r.sector
  bytes : is_read (order H).kind ≡ false → data_of u ≡ padded H.fed

abbrev KnownAccess : Access → Bytes → History → Type 0
KnownAccess (access.Start k) u H = Unit {0}
KnownAccess (access.Store k) u H = H.last ≡ answer.Store
KnownAccess (access.Read r) u H = is_read (order H).kind ≡ true
KnownAccess (access.Write x) u H = Writing x u H
KnownAccess (access.Verify x) u H = Verifying x H
KnownAccess (access.TrialWrite r) u H = Trying r u H
KnownAccess (access.TrialRead r) u H = Checking r u H

abbrev Known : Phase → Bytes → Bytes → History → Type 0
Known phase.Idle c u H = Unit {0}
Known (phase.Offered o) c u H = Offering o c H
Known phase.Command c u H = Unit {0}
Known phase.Data c u H = Unit {0}
Known (phase.Awaiting x) c u H = KnownAccess x u H

module _ (pl : Block → Where) (ca : Block → List Bytes) (wr : Bool) (lr : Where) (ln fn : Bool) where
  shake_known : (to : Bool) {u : Bytes} {p : Phase} {c : Bytes} {n f : ℕ} {a : Answer} {h fd : Bytes} → Shake u p c n f a h fd → Known p c u (history_of pl ca a h fd false to wr lr ln fn)
  shake_known to (resting e g) = tt
  shake_known to offer1 = record { resting = refl; number = tt }
  shake_known to (heads k) = tt
  shake_known to (offer2 k o) = record { resting = refl; number = k.number }
  shake_known to (offer3 k o) = record { resting = refl; number = tt }
  shake_known to (offer4 k o) = record { resting = refl; number = tt }
  shake_known to (takes k o d) = tt
  shake_known to (offer6 k o d) = record { resting = refl; number = k.number }

  work_known : (h fd : Bytes) {t : Table} {σ : Sectors} {mv : Bool} {b : Block} {rd : Bool} {u : Bytes} {x : Access} {a : Answer} → Blocky b → number_of h ≡ b.0 → is_read (kind_of h) ≡ rd
      → Work t σ pl ca mv b rd u (padded fd) x a wr lr → KnownAccess x u (history_of pl ca a h fd true true wr lr ln fn)
  work_known h fd i num isr (rereads eb er es op g k) = isr ∙ op
  work_known h fd {b = b} i num isr (writing wt eb er es op ed k) =
      record { asked = ap answer.Write (sym er); place = ap pl (same_block (block_of (order_of h)) b num) ∙ (k.where_is b i ∙ ap at (sym (er ∙ es))); bytes = ed }
  work_known h fd {t} {b = b} i num isr (verifying {w = w} wt el eb er es op ed so k) =
      record {
        asked = ap answer.Read (sym er);
        sector = off_table w.sector (λ y. not_table (spare_list t) b k.short (sym (er ∙ es) ∙ y));
        place = ap pl (same_block (block_of (order_of h)) b num) ∙ (k.where_is b i ∙ ap at (sym (er ∙ es)));
      }
  work_known h fd i num isr (trying wt eb er st bd k) = record { asked = ap answer.Write (sym er); bytes = λ z. bd.as_write (sym isr ∙ z) }
  work_known h fd {t} {b = b} i num isr (checking {r = r} wt el eb er st bd so k) =
      record {
        asked = ap answer.Read (sym er);
        sector = not_at_table t b r k.short st;
        read = el ∙ ap at (sym er);
        place = λ z. ap pl (same_block (block_of (order_of h)) b num) ∙ (k.where_is b i ∙ ap at (sym (st.present z)));
        bytes = λ z. bd.as_write (sym isr ∙ z);
      }

sim_known : {start : Sectors} {w : World} {H : History} → Sim start w H → Known w.drive.state.phase w.drive.state.command w.buffer H
sim_known (at_start l k e h) = tt
sim_known (at_rest {pl = pl} {ca = ca} {to = to} {wr = wr} {lr = lr} {ln = ln} {fn = fn} l so g m) = shake_known pl ca wr lr ln fn to m
sim_known (at_work {pl = pl} {ca = ca} {h = h} {fd = fd} {wr = wr} {lr = lr} {ln = ln} {fn = fn} l k so el ef i num isr m) = work_known pl ca wr lr ln fn h fd i num isr m
sim_known (at_store l k so el ef i num isr ok pa cl) = refl

-- WHAT A REPORT OF A GOOD WRITE SAYS
record Report (H : History) (o : Entry) : Type 0 where
  accepted : (of_answer o.answer).refused ≡ false
  reported : reports H o ≡ true
  underway : underway H o ≡ true
  finished : (of_answer o.answer).finished ≡ true
  block : is_block (order H).number ≡ true
  good : good o ≡ true
  write : is_read (order H).kind ≡ false

report : (H : History) (o : Entry) → good_write H o ≡ true → Report H o
unfolding good_write reports
report H o h =
    let a = not (of_answer o.answer).refused in
    let r = reports H o in
    let g = good o in
    let w = not (is_read (order H).kind) in
    let arg = and_left (a && r && g) w h in
    let ar = and_left (a && r) g arg in
    let f = and_right a r ar in
    let uf = and_left (underway H o && (of_answer o.answer).finished) (is_block (order H).number) f in
    record {
      accepted = not-true (of_answer o.answer).refused (and_left a r ar);
      reported = f;
      underway = and_left (underway H o) (of_answer o.answer).finished uf;
      finished = and_right (underway H o) (of_answer o.answer).finished uf;
      block = and_right (underway H o && (of_answer o.answer).finished) (is_block (order H).number) f;
      good = and_right (a && r) g arg;
      write = not-true (is_read (order H).kind) (and_right (a && r && g) w h);
    }

-- WHAT ONE CALL OWES, as a property of its turn: a write that it reports good was made, and the invariant holds again.
abbrev entry : Call → Bool → Table → Bytes → Bytes → Turn → Entry
entry c sp t bs u x = entry_of (ev c sp) (out_of t [] bs u x)

record Owes (start : Sectors) (H : History) (wrote : Wrote) (c : Call) (sp : Bool) (t : Table) (bs u : Bytes) (x : Turn) : Type 0 where
  written : good_write H (entry c sp t bs u x) ≡ true → IsMade start H wrote (entry c sp t bs u x)
  ready : Ready x.state.phase (next start H (entry c sp t bs u x)) (wrote_next H wrote (entry c sp t bs u x))

module _ (start : Sectors) (H : History) (wrote : Wrote) (c : Call) (sp : Bool) (t : Table) (bs u : Bytes) where
  abbrev P : Turn → Type 0
  P x = Owes start H wrote c sp t bs u x

  -- A refusal changes nothing.
  refuses : (l : State) (r : Refusal) → Ready l.phase H wrote → P (refuse r l)
  unfolding next wrote_next
  refuses l r k = record { written = λ h. clash refl (report H (entry c sp t bs u (refuse r l)) h).accepted; ready = k }

  -- What is not finished reports nothing; what is not good, or no block's, or a read reports no good write.
  unfinished : (x : Turn) → (of_answer x.answer).finished ≡ false → unread x.state.phase ≡ true → P x
  unfinished x f q = record { written = λ h. clash (report H (entry c sp t bs u x) h).finished f; ready = still_ready x.state.phase _ _ q }

  ends_well_lem : (x : Turn) → (of_answer x.answer).finished ≡ true → good (entry c sp t bs u x) ≡ true → ends_well (out_of t [] bs u x) ≡ true
  unfolding good
  ends_well_lem x f g = rw f g

  unfine : (x : Turn) → (is_block (order H).number ≡ true → Bad t [] bs u x) → unread x.state.phase ≡ true → P x
  unfolding good
  unfine x f q =
      record {
        written = λ h. let r = report H (entry c sp t bs u x) h in absurd (f r.block (ends_well_lem x r.finished r.good));
        ready = still_ready x.state.phase _ _ q;
      }

  of_a_read : (x : Turn) → is_read (order H).kind ≡ true → Ready x.state.phase (next start H (entry c sp t bs u x)) (wrote_next H wrote (entry c sp t bs u x)) → P x
  of_a_read x e q = record { written = λ h. clash e (report H (entry c sp t bs u x) h).write; ready = q }

  module _ (l : State) (k : Ready l.phase H wrote) where
    raises : (p : Phase) → P (raised p l)
    unfolding raised
    raises phase.Idle = unfinished _ refl refl
    raises (phase.Offered o) = refuses l _ k
    raises phase.Command = unfinished _ refl refl
    raises phase.Data = unfinished _ refl refl
    raises (phase.Awaiting x) = refuses l _ k

    feeds : (p : Phase) (xs : Bytes) → P (fed_to p l xs)
    unfolding fed_to
    feeds phase.Idle xs = refuses l _ k
    feeds (phase.Offered o) xs = refuses l _ k
    feeds phase.Command xs = unfinished _ refl refl
    feeds phase.Data xs = unfinished _ refl refl
    feeds (phase.Awaiting x) xs = refuses l _ k

    rests : (p : Phase) → P (rested p l)
    unfolding rested
    rests phase.Idle = unfinished _ refl refl
    rests (phase.Offered o) = unfinished _ refl refl
    rests phase.Command = unfinished _ refl refl
    rests phase.Data = unfinished _ refl refl
    rests (phase.Awaiting x) = refuses l _ k

    -- Acting on a command asks for a first access, or ends it.
    acts_owes : (order H).number ≡ number_of l.command → P (acted (order_of l.command) l t)
    acts_owes n =
        let z = acts_first t [] bs u (order_of l.command) l in
        unfine _ (λ i. z.0 (ap is_block (sym n) ∙ i)) z.1

    goes : (o : Offer) → KnownOffer o l.command H → P (goes_on o l t)
    unfolding goes_on
    goes offer.Command n = unfinished _ refl refl
    goes offer.Read n = acts_owes n
    goes offer.Write n = unfinished _ refl refl
    goes offer.Verify n = unfinished _ refl refl
    goes offer.Act n = acts_owes n

    -- Another byte reports nothing.
    breaks : (of_call c).goes ≡ false → H.acting ≡ false → P (broken_off l)
    unfolding underway acts
    breaks g a = record { written = λ h. clash (report H (entry c sp t bs u (broken_off l)) h).underway (rw (g, a)); ready = tt }

    lowers : (p : Phase) (b : ℕ) → (of_call c).goes ≡ eqb b 0x55 → Known p l.command u H → P (lowered p l t b)
    unfolding lowered
    lowers phase.Idle b g n = refuses l _ k
    lowers (phase.Offered o) b g n = lowered_cases P o l t b (record { goes = λ e. goes o n.number; breaks = λ e. breaks (g ∙ e) n.resting })
    lowers phase.Command b g n = refuses l _ k
    lowers phase.Data b g n = refuses l _ k
    lowers (phase.Awaiting x) b g n = refuses l _ k

-- THE SURFACE ANSWERS
module _ (start : Sectors) (H : History) (wrote : Wrote) (a : ℕ) (bs : Bytes) (sp : Bool) (t : Table) (l : State) (u : Bytes) where
  abbrev S : Turn → Type 0
  S x = Owes start H wrote (surface a bs) sp t bs u x

  abbrev at_entry : Turn → Entry
  at_entry x = entry (surface a bs) sp t bs u x

  abbrev next_wrote : Turn → Wrote
  next_wrote x = wrote_next H wrote (at_entry x)

  -- Says whether a verify or a reread brought the data part.
  abbrev equal : Bool
  equal = eqb a 0 && same bs (data_of u)

  goes_on_lem : (x : Turn) → (of_answer x.answer).finished ≡ false → unread x.state.phase ≡ true → S x
  goes_on_lem x f q = unfinished start H wrote (surface a bs) sp t bs u x f q

  -- An ending that fails owes nothing more, nor does a trial that failed or was stopped.
  failing : (x : Turn) → Fails t [] bs u x → S x
  failing x f = unfine start H wrote (surface a bs) sp t bs u x (λ i. f.bad) f.unread

  starts : (j : ℕ) → S (start_answered j l a bs)
  starts j =
      start_cases S j l a bs
      (record { table = λ e. goes_on_lem _ refl refl; stops = λ e f. goes_on_lem _ refl refl; again = λ e f. goes_on_lem _ refl refl; gives_up = λ e f. goes_on_lem _ refl refl })

  -- A read owes nothing more: it is no write.
  reads_owe : (x : Outcome) (p : Part) → is_read (order H).kind ≡ true → S (reads x l t p)
  unfolding reads next heard
  reads_owe x p e = go x
    where
      owes_none : (y : Turn) → Ready y.state.phase (next start H (at_entry y)) (next_wrote y) → S y
      owes_none y q = of_a_read start H wrote (surface a bs) sp t bs u y e q

      ended : (c : Change) (n : Ending) (s : Seen) → S (finish l c n s p)
      ended c n s = finish_cases S l c n s p (record { asks = λ q. owes_none _ (λ f i. clash e i); reports = λ q. owes_none _ tt })

      go : (x : Outcome) → S (reads x l t p)
      go (outcome.Done r) = ended _ _ _
      go (outcome.Again r) = owes_none _ tt
      go (outcome.Settle r) = settled_cases S l r p (record { below = λ z. ended _ _ _; latched = λ z y. ended _ _ _; tries = λ z y. owes_none _ (refl, refl) })
      go (outcome.Lost r) = lost_cases S l t r p (record { listed = λ z. ended _ _ _; entered = λ z y. ended _ _ _; full = λ z y. ended _ _ _ })
      go (outcome.Stop r) = ended _ _ _

  -- THE LAST WRITE: answer 0 to a write s of the command's bytes is one,
  landed : (s : Sector) (x : Turn) → (of_answer x.answer).refused ≡ false → eqb a 0 ≡ true → H.last ≡ answer.Write s → data_of (at_entry x).buffer ≡ padded H.fed
      → next_wrote x ≡ record { went = at s; same = 0 }
  unfolding wrote_next acts
  landed s x f e w d = rw (f, e, w, d, same_refl (padded H.fed))

  -- an answer to a read leaves it where it went,
  abbrev same_bytes : Sector → Bool
  same_bytes s = same_sector (at s) wrote.went && same bs (padded H.fed)

  abbrev reread : Bool → Bool → Wrote
  reread p q = cond p (cond q (record { went = wrote.went; same = suc wrote.same }) wrote) wrote

  after_read_lem : (s : Sector) (x : Turn) → (of_answer x.answer).refused ≡ false → H.last ≡ answer.Read s → next_wrote x ≡ reread (eqb a 0) (same_bytes s)
  unfolding wrote_next acts
  after_read_lem s x f w = rw (f, w)

  stays_there : (s : Sector) (x : Turn) → (of_answer x.answer).refused ≡ false → H.last ≡ answer.Read s → (next_wrote x).went ≡ wrote.went
  stays_there s x f w = ap (λ (z : Wrote). z.went) (after_read_lem s x f w) ∙ either (eqb a 0) (same_bytes s)
    where
      either : (p q : Bool) → (reread p q).went ≡ wrote.went
      either true true = refl
      either true false = refl
      either false q = refl

  -- and one with the command's bytes counts as a reread of it.
  counts_there : (s : Sector) (x : Turn) → (of_answer x.answer).refused ≡ false → H.last ≡ answer.Read s → wrote.went ≡ at s → data_of u ≡ padded H.fed
      → (next_wrote x).same ≡ wrote.same + cond equal 1 0
  counts_there s x f w e d =
      let tested : same_bytes s ≡ same bs (data_of u) = rw (e, eq-eqb s.0 s.0 refl, d) in
      ap (λ (z : Wrote). z.same) (after_read_lem s x f w) ∙ (ap (λ (q : Bool). (reread (eqb a 0) q).same) tested ∙ either (eqb a 0) (same bs (data_of u)))
    where
      either : (p q : Bool) → (reread p q).same ≡ wrote.same + cond (p && q) 1 0
      either true true = omega arith
      either true false = omega arith
      either false q = omega arith

  -- A store's answer leaves it too.
  after_store : (x : Turn) → (of_answer x.answer).refused ≡ false → H.last ≡ answer.Store → next_wrote x ≡ wrote
  unfolding wrote_next acts
  after_store x f w = rw (f, w) (branch (λ (z : Wrote). z ≡ wrote) (eqb a 0) (λ e. refl) (λ e. refl))

  -- WHERE THE BLOCK IS after a report: where it was, or, if it moved, at the sector of the last read.
  abbrev told : Marks → Change → Ending → Seen → Bool → Bool → Turn
  told m ch e s v w = tells l m ch e s v w part.Kept

  moves_told : (m : Marks) (ch : Change) (e : Ending) (s : Seen) (v w : Bool) → moves (at_entry (told m ch e s v w)) ≡ is_move e
  unfolding part_left status_left
  moves_told m ch e s v w = moves_is (surface a bs) answer.Finished e s v w m.fresh u

  place_told : (m : Marks) (ch : Change) (e : Ending) (s : Seen) (v w : Bool) → is_table_sector (of_answer H.last).read ≡ false → reports H (at_entry (told m ch e s v w)) ≡ true
      → (next start H (at_entry (told m ch e s v w))).place (block_of (order H)) ≡ place_then (is_move e) H
  unfolding next heard
  place_told m ch e s v w n r = go (is_move e) refl
    where
      o : Entry
      o = at_entry (told m ch e s v w)

      b : Block
      b = block_of (order H)

      go : (q : Bool) → is_move e ≡ q → (next start H (at_entry (told m ch e s v w))).place (block_of (order H)) ≡ place_then q H
      go true q = ap (λ (f : Block → Where). f b) (place_moved H o (no_learn H o n) (and_true (reports H o) (moves o) r (moves_told m ch e s v w ∙ q))) ∙ rw (eq-eqb b.0 b.0 refl)
      go false q = ap (λ (f : Block → Where). f b) (place_kept H o (no_learn H o n) (and_false (reports H o) (moves o) (moves_told m ch e s v w ∙ q)))

  -- Asking for the store leaves it to be there.
  place_asked : (m : Marks) (ch : Change) (e : Ending) (s : Seen) (q : Bool) → is_table_sector (of_answer H.last).read ≡ false
      → place_then q (next start H (at_entry (asks_store l m ch e s part.Kept))) ≡ place_then q H
  unfolding next heard acts reports
  place_asked m ch e s true n = refl
  place_asked m ch e s false n =
      let o = at_entry (asks_store l m ch e s part.Kept) in
      ap (λ (f : Block → Where). f (block_of (order H))) (places_kept H o (no_learn H o n) (rw (and_false (underway H o) false refl)))

  -- Says that a command's write is at the sector s, whatever turn is taken that leaves the data part.
  abbrev Went : Sector → ℕ → Type 0
  Went s n = (x : Turn) → (of_answer x.answer).refused ≡ false → data_of (at_entry x).buffer ≡ data_of u → is_read (order H).kind ≡ false → ((next_wrote x).went ≡ at s) × (n ≤ (next_wrote x).same)

  -- A command that ends well owes that its write went where its block then is: at its finish, or while its store is awaited.
  settles : (s : Sector) (n : ℕ) (ch : Change) (e : Ending) (x : Seen) → is_table_sector (of_answer H.last).read ≡ false → place_then (is_move e) H ≡ at s → (is_move e ≡ true → 70 ≤ n) → Went s n → S (finish l ch e x part.Kept)
  unfolding next heard part_left status_left
  settles s n ch e x off p many w =
      finish_cases S l ch e x part.Kept
      (record {
        asks = λ q. record {
          written = λ h. clash (report H (at_entry first) h).finished refl;
          ready = λ f i. let z = w first refl refl i in record { sector = s; there = z.0; place = place_asked m₁ ch e x (is_move e) off ∙ p; reread = λ m. let y = many m in omega (arith, y, z.1) };
        };
        reports = λ q. record {
          written = λ h.
              let y = report H (at_entry last) h in
              let z = w last refl (data_ended (surface a bs) answer.Finished e x (wants_store m₁) false m₁.fresh u) y.write in
              record { sector = s; written = z.0; place = place_told m₁ ch e x (wants_store m₁) false off y.reported ∙ p; reread = λ m. let y' = many (sym (moves_told m₁ ch e x (wants_store m₁) false) ∙ m) in omega (arith, y', z.1) };
          ready = tt;
        };
      })
    where
      m₁ : Marks
      m₁ = at_end l.marks ch e

      first : Turn
      first = asks_store l m₁ ch e x part.Kept

      last : Turn
      last = told m₁ ch e x (wants_store m₁) false

  -- One whose store is answered owes it as it was.
  stores : (k : Close) → H.last ≡ answer.Store → (fails k.ending ≡ false → is_read (order H).kind ≡ false → Settled k H wrote) → S (store_answered k l a)
  unfolding store_answered part_left status_left
  stores k w h = record { written = λ g. go (report H (at_entry x) g); ready = tt }
    where
      m₁ : Marks
      m₁ = store_marks l.marks a

      x : Turn
      x = told m₁ change.Keep k.ending (met a k.seen) (is_undone a) (eqb a 3)

      sound : good (at_entry x) ≡ true → fails k.ending ≡ false
      sound g = both (fails k.ending) (is_undone a) (sym (good_is (surface a bs) answer.Finished k.ending (met a k.seen) (is_undone a) (eqb a 3) m₁.fresh u) ∙ g)
        where
          both : (p q : Bool) → not (p || q) ≡ true → p ≡ false
          both true q z = clash z refl
          both false q z = refl

      go : Report H (at_entry x) → IsMade start H wrote (at_entry x)
      go y =
          let z = h (sound y.good) y.write in
          let e = after_store x refl w in
          let off = ap (λ (v : Answer). is_table_sector (of_answer v).read) w in
          record {
            sector = z.sector;
            written = ap (λ (v : Wrote). v.went) e ∙ z.there;
            place = place_told m₁ change.Keep k.ending (met a k.seen) (is_undone a) (eqb a 3) off y.reported ∙ z.place;
            reread = λ m. let n = z.reread (sym (moves_told m₁ change.Keep k.ending (met a k.seen) (is_undone a) (eqb a 3)) ∙ m) in let c = ap (λ (v : Wrote). v.same) e in omega arith;
          }

  -- A plain write pays by its one write, and a write/verify
  writes : (x : Target) → Writing x u H → S (write_answered l t x a)
  unfolding part_left status_left
  writes x n =
      write_cases S l t x a
      (record {
        verifies = λ e f. record { written = λ h. clash (report H (at_entry back) h).finished refl; ready = ap (λ (w : Wrote). w.went) (landed x.sector back refl e n.asked n.bytes) };
        done = λ e f. settles x.sector 0 change.Keep ending.Good clean (ap (λ (y : Answer). is_table_sector (of_answer y).read) n.asked) n.place (λ m. clash m refl)
            (λ y q d i. (ap (λ (w : Wrote). w.went) (landed x.sector y q e n.asked (d ∙ n.bytes)), omega arith));
        stops = λ e f. ends t [] bs u S failing l change.Keep _ _ refl;
        moves = λ e f. nexts t [] bs u S failing l _ _ x.block _;
      })
    where
      back : Turn
      back = say (in_phase l (phase.Awaiting (access.Verify x))) (answer.Read x.sector)

  -- by what its verify leaves where it went;
  verifies_owe : (x : Target) → Verifying x H → wrote.went ≡ at x.sector → (q : Bool) → S (verify_answered l x a q)
  verifies_owe x n there q =
      verify_cases S l x a q
      (record {
        stops = λ e. ends t [] bs u S failing l change.Keep _ _ refl;
        done = λ e f. settles x.sector 0 change.Keep ending.Good clean (ap (λ (y : Answer). is_table_sector (of_answer y).read) n.asked ∙ n.sector) n.place (λ m. clash m refl)
            (λ y q d i. (stays_there x.sector y q n.asked ∙ there, omega arith));
        fails = λ e f. goes_on_lem _ refl refl;
      })

  -- a trial by its write,
  tries : (r : Trial) → Trying r u H → r.rereads ≡ 0 → r.failures ≡ 0 → S (tried l t r a)
  unfolding next heard part_left status_left
  tries r n z y =
      tried_cases S l t r a
      (record {
        done = λ e. record { written = λ h. clash (report H (at_entry back) h).finished refl; ready = λ i. first e i };
        stops = λ e. stops t [] bs u S failing l r;
        fails = λ e f. misses t [] bs u S failing l r _;
      })
    where
      back : Turn
      back = say (in_phase l (phase.Awaiting (access.TrialRead r))) (answer.Read r.sector)

      first : eqb a 0 ≡ true → is_read (order H).kind ≡ false → Confirmed r (next_wrote back)
      first e i =
          let w = landed r.sector back refl e n.asked (n.bytes i) in
          record { there = ap (λ (x : Wrote). x.went) w; count = let c = ap (λ (x : Wrote). x.same) w in omega arith }

  -- and by its rereads.
  module _ (r : Trial) (n : Checking r u H) (k : is_read (order H).kind ≡ false → Confirmed r wrote) where
    abbrev r' : Trial
    r' = counted r a equal

    off : is_table_sector (of_answer H.last).read ≡ false
    off = ap (λ (x : Answer). is_table_sector (of_answer x).read) n.asked ∙ n.sector

    one : (q : Bool) → cond q 1 0 + cond q 0 1 ≡ 1
    one true = refl
    one false = refl

    confirmed : is_read (order H).kind ≡ false → (x : Turn) → (of_answer x.answer).refused ≡ false → Confirmed r' (next_wrote x)
    confirmed i x f =
        let c = k i in
        record {
          there = stays_there r.sector x f n.asked ∙ c.there;
          count = omega (arith, counts_there r.sector x f n.asked c.there (n.bytes i), one equal, c.count);
        }

    again : S (say (in_phase l (phase.Awaiting (access.TrialRead r'))) (answer.Read r.sector))
    unfolding next heard
    again =
        let x : Turn = say (in_phase l (phase.Awaiting (access.TrialRead r'))) (answer.Read r.sector) in
        record { written = λ h. clash (report H (at_entry x) h).finished refl; ready = λ i. confirmed i x refl }

    went : (n : ℕ) → n + r'.failures ≤ r'.rereads → Went r.sector n
    went n h y q d i = let c = confirmed i y q in (c.there, omega (arith, h, c.count))

    in_place : r.spare ≡ false → (ch : Change) → S (finish l ch ending.Good r'.seen part.Kept)
    in_place z ch = settles r.sector 0 ch ending.Good r'.seen off (n.place z) (λ m. clash m refl) (λ y q d i. ((confirmed i y q).there, omega arith))

    moved : has_reread r' ≡ false → is_sound r' ≡ true → (ch : Change) → S (finish l ch ending.Moved r'.seen part.Kept)
    moved f g ch =
        settles r.sector 70 ch ending.Moved r'.seen off n.read (λ m. omega arith) (went 70 (omega (arith, ltb-false r'.rereads 100 f, leb-true r'.failures 30 g)))

    checks : S (checked l t r a equal)
    checks =
        checked_cases S l t r a equal
        (record {
          stops = λ e. stops t [] bs u S failing l r;
          counts = λ e. record {
            again = λ f. again;
            passes = λ f g. record { moved = λ z. moved f g _; listed = λ z y. in_place z _; stays = λ z y. in_place z _ };
            fails = λ f g. misses t [] bs u S failing l r' _;
          };
        })

  follow : (x : Access) → ReadyAccess x H wrote → KnownAccess x u H → S (follows x l t a bs (verifies (phase.Awaiting x) a && same bs (data_of u)))
  unfolding follows
  follow (access.Start j) q n = starts j
  follow (access.Store k) q n = stores k n q
  follow (access.Read r) q n = reads_owe (after_read r a) _ n
  follow (access.Write x) q n = writes x n
  follow (access.Verify x) q n = verifies_owe x n q _
  follow (access.TrialWrite r) q n = tries r n q.0 q.1
  follow (access.TrialRead r) q n = checks r n q

  no : Ready l.phase H wrote → (r : Refusal) → S (refuse r l)
  no k r = refuses start H wrote (surface a bs) sp t bs u l r k

  surfaces : Ready l.phase H wrote → (p : Phase) → Ready p H wrote → Known p l.command u H → S (answered p l t a bs (verifies p a && same bs (data_of u)))
  unfolding answered
  surfaces k phase.Idle q n = no k refusal.Place
  surfaces k (phase.Offered o) q n = no k refusal.Place
  surfaces k phase.Command q n = no k refusal.Place
  surfaces k phase.Data q n = no k refusal.Place
  surfaces k (phase.Awaiting x) q n =
      fitting_cases S (asks_read x) l a (length bs) _ (record { answer = λ e. no k refusal.Answer; bytes = λ e f. no k refusal.Bytes; fits = λ e f. follow x q n })

-- ONE CALL
module _ (start : Sectors) (H : History) (wrote : Wrote) (sp : Bool) (w : World) (k : Ready w.drive.state.phase H wrote) (n : Known w.drive.state.phase w.drive.state.command w.buffer H) where
  open w use {buffer as u₁}

  abbrev t₁ : Table
  t₁ = w.drive.table

  abbrev l₁ : State
  l₁ = w.drive.state

  rules : (c : Call) → Owes start H wrote c sp t₁ (loads c) u₁ (ruled c t₁ l₁ u₁)
  rules raise = raises start H wrote raise sp t₁ [] u₁ l₁ k l₁.phase
  rules (lower b) = lowers start H wrote (lower b) sp t₁ [] u₁ l₁ k l₁.phase b refl n
  rules (feed bs) = feeds start H wrote (feed bs) sp t₁ bs u₁ l₁ k l₁.phase bs
  rules (surface a bs) = surfaces start H wrote a bs sp t₁ l₁ u₁ k l₁.phase k n
  rules reset = rests start H wrote reset sp t₁ [] u₁ l₁ k l₁.phase

  guards : (c : Call) → Owes start H wrote c sp t₁ (loads c) u₁ (guarded (record_ok w.drive) (length u₁) l₁ (ruled c t₁ l₁ u₁))
  guards c =
      guarded_cases (Owes start H wrote c sp t₁ (loads c) u₁) (record_ok w.drive) (length u₁) l₁ _
      (record { damaged = λ o. none _; length = λ o q. none _; passes = λ o q. rules c })
    where
      none : (r : Refusal) → Owes start H wrote c sp t₁ (loads c) u₁ (refuse r l₁)
      none r = refuses start H wrote c sp t₁ (loads c) u₁ l₁ r k

  abbrev o₁ : Call → Entry
  o₁ c = entry_of (ev c sp) (made w (call (ev c sp)))

  owes : (c : Call) → (good_write H (o₁ c) ≡ true → IsMade start H wrote (o₁ c)) × Ready (made w (call (ev c sp))).step.drive.state.phase (next start H (o₁ c)) (wrote_next H wrote (o₁ c))
  unfolding step_of raise_of lower_of feed_of surface_of reset_of
  owes raise = ((guards raise).written, (guards raise).ready)
  owes (lower b) = ((guards (lower b)).written, (guards (lower b)).ready)
  owes (feed bs) = ((guards (feed bs)).written, (guards (feed bs)).ready)
  owes (surface a bs) = ((guards (surface a bs)).written, (guards (surface a bs)).ready)
  owes reset = ((guards reset).written, (guards reset).ready)

-- A START owes nothing: it awaits its own read, or is refused.
restarted : (w : World) (H : History) (wrote : Wrote) → Ready w.drive.state.phase H wrote → (d : Drive) (v : Bytes) (x : Fate) → Ready (after w (power d v x) (start_of d v)).drive.state.phase (begun H (start_of d v).step.answer) wrote
unfolding start_of begun
restarted w H wrote k d v x =
    branch (λ (y : Out). Ready (after w (power d v x) y).drive.state.phase (begun H y.step.answer) wrote) (eqb (length v) 536) (λ q. tt) (λ q. k)

-- THE WHOLE LIST
all : {start : Sectors} {w : World} {H : History} (wrote : Wrote) → Sim start w H → Ready w.drive.state.phase H wrote → (ms : List Moment) → Lawful w ms → Made start H wrote (lines w ms)
all wrote m k [] ok = tt
all {start} {w} {H} wrote m k (call e ∷ ms) ok =
    let r = owes start H wrote e.spoils w k (sim_known m) e.call in
    (r.0, all {w = after w (call e) (made w (call e))} _ (step m e.call e.spoils ok.0).1 r.1 ms ok.1)
all {start} {w} {H} wrote m k (power d v x ∷ ms) ok =
    all {w = after w (power d v x) (made w (power d v x))} wrote (began m d v x) (restarted w H wrote k d v x) ms ok.1

pub writes_made : WritesMade
unfolding start_of
writes_made given lent h sectors ms ok = all unwritten (sim_begins given lent h sectors) (first_ready given lent h) ms ok
  where
    first_ready : (d : Drive) (v : Bytes) → length v ≡ 536 → Ready (start_of d v).step.drive.state.phase blank unwritten
    first_ready d v h = rw (eq-eqb (length v) 536 h) tt
