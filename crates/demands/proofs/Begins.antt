-- EVERY TRIAL BEGINS WITH NO REREAD, and none under the latch, in every list of calls after a start; and once its write is answered
-- 0, its first reread is awaited. So `trial_100` is said of each of them.
use mathlib.Core.Path.{◌≡◌, refl, subst, ◌∙◌}
use mathlib.Core.Bool.{Bool, true, false, not, ◌&&◌, ◌||◌}
use mathlib.Core.List.{List, [], ◌∷◌}
use Prim.Native.Nat.{ℕ, ◌+◌}
use borrow.Author.Tests.{eq-eqb, eqb-true, not-true}
use lib.Dec.{eqb}
use lib.ListN.{length, replicate}
use Rattle.logic.proofs.Bools.{and_left, and_right}
use Rattle.geometry.specs.declared.Block.{Block}
use Rattle.table.specs.declared.Table.{Table}
use Rattle.drive.specs.declared.Cause.{Cause}
use Rattle.drive.specs.declared.Access.{Access}
use Rattle.drive.specs.declared.Access.TheVariants as access
use Rattle.drive.specs.declared.Change.{Change}
use Rattle.drive.specs.declared.Change.TheVariants as change
use Rattle.drive.specs.declared.Drive.{Drive}
use Rattle.drive.specs.declared.Ending.{Ending}
use Rattle.drive.specs.declared.Offer.{Offer}
use Rattle.drive.specs.declared.Offer.TheVariants as offer
use Rattle.drive.specs.declared.Order.{Order}
use Rattle.drive.specs.declared.Outcome.{Outcome}
use Rattle.drive.specs.declared.Outcome.TheVariants as outcome
use Rattle.drive.specs.declared.Part.{Part}
use Rattle.drive.specs.declared.Phase.{Phase}
use Rattle.drive.specs.declared.Phase.TheVariants as phase
use Rattle.drive.specs.declared.Seen.{Seen}
use Rattle.drive.specs.declared.State.{State}
use Rattle.drive.specs.declared.Trial.{Trial}
use Rattle.drive.specs.declared.Turn.{Turn}
use Rattle.buffer.specs.Runs.{same}
use Rattle.drive.specs.Words.{data_of, latches}
use Rattle.drive.specs.Records.{record_ok}
use Rattle.drive.specs.Results.{alters, finish}
use Rattle.drive.specs.Handshake.{raised, acted, goes_on, lowered, fed_to, rested}
use Rattle.drive.specs.Retries.{after_read}
use Rattle.drive.specs.Sparing.{tried, counted}
use Rattle.drive.specs.Access.{asks_read, kept_part, store_answered, reads, fitting, follows, answered, verifies}
use Rattle.drive.specs.Calls.{Call, raise, lower, feed, surface, reset, called, raise_of, lower_of, feed_of, surface_of, reset_of, step_of, started, start_of}
use Rattle.drive.specs.Over.{Reply, replied}
use Rattle.drive.specs.Trials.{AwaitsReread}
use Rattle.records.proofs.Ladders.{guarded_cases, fitting_cases, finish_cases, acted_cases, lowered_cases, NextSpare, Missed, Stopped, Verified, tried_cases, checked_cases, start_cases, lost_cases, settled_cases, write_cases, verify_cases}
use Rattle.demands.proofs.Awaited.{of_phase}

-- Says whether a trial whose write is awaited has no reread yet, and that under the latch nothing but a read is awaited, a read
-- command's or the start's: no write, no store, no verify, no reread.
abbrev pub is_fresh : Bool → Access → Bool
is_fresh latch (access.Start k) = true
is_fresh latch (access.Store k) = not latch
is_fresh latch (access.Read r) = true
is_fresh latch (access.Write w) = not latch
is_fresh latch (access.Verify w) = not latch
is_fresh latch (access.TrialWrite r) = not latch && (eqb r.rereads 0 && eqb r.failures 0)
is_fresh latch (access.TrialRead r) = not latch

abbrev pub fresh : State → Bool
fresh l = of_phase true (is_fresh l.marks.latch) l.phase

-- Says so of a turn.
abbrev Leaves : Turn → Type 0
Leaves x = fresh x.state ≡ true

-- WHAT EACH RULE LEAVES
module _ (l : State) (t : Table) where
  ends : (c : Change) (e : Ending) (s : Seen) (p : Part) → Leaves (finish l c e s p)
  ends c e s p =
      finish_cases Leaves l c e s p (record { asks = and_right (l.marks.known && (alters c || l.marks.changed)) (not (latches e || l.marks.latch)); reports = λ q. refl })

  module _ (free : l.marks.latch ≡ false) where
    nexts : (n : ℕ) (c : Change) (b : Block) (s : Seen) {x y : Cause} → NextSpare Leaves n l c b s x y
    nexts n c b s = record { spare = λ e. rw free; no_spare = λ e. ends c _ _ _ }

    misses : (r : Trial) (s : Seen) {x : Cause} → Missed Leaves l t r s x
    misses r s = record { dead = λ e. nexts (t.nspares + 1) _ r.block s; left = λ e. nexts t.nspares change.Keep r.block s }

  stops : (r : Trial) → Stopped Leaves l r
  stops r = record { dead = λ e. ends _ _ _ _; present = λ e. ends _ _ _ _ }

  passes : (r : Trial) → Verified Leaves l t r
  passes r = record { moved = λ e. ends _ _ _ _; listed = λ e f. ends _ _ _ _; stays = λ e f. ends _ _ _ _ }

  reads_leave : (o : Outcome) (p : Part) → Leaves (reads o l t p)
  unfolding reads
  reads_leave (outcome.Done r) p = ends _ _ _ p
  reads_leave (outcome.Again r) p = refl
  reads_leave (outcome.Settle r) p = settled_cases Leaves l r p (record { below = λ e. ends _ _ _ p; latched = λ e f. ends _ _ _ p; tries = λ e f. rw f })
  reads_leave (outcome.Lost r) p = lost_cases Leaves l t r p (record { listed = λ e. ends _ _ _ p; entered = λ e f. ends _ _ _ p; full = λ e f. ends _ _ _ p })
  reads_leave (outcome.Stop r) p = ends _ _ _ p

  -- An access of the present state leads to such a one.
  follows_leave : (x : Access) (a : ℕ) (bs : List ℕ) (q : Bool) → is_fresh l.marks.latch x ≡ true → Leaves (follows x l t a bs q)
  unfolding follows store_answered
  follows_leave (access.Start k) a bs q h =
      start_cases Leaves k l a bs (record { table = λ e. refl; stops = λ e f. refl; again = λ e f. refl; gives_up = λ e f. refl })
  follows_leave (access.Store k) a bs q h = refl
  follows_leave (access.Read r) a bs q h = reads_leave (after_read r a) (kept_part r a)
  follows_leave (access.Write w) a bs q h =
      let free = not-true l.marks.latch h in
      write_cases Leaves l t w a (record { verifies = λ e f. h; done = λ e f. ends _ _ _ _; stops = λ e f. ends _ _ _ _; moves = λ e f. nexts free t.nspares change.Keep w.block _ })
  follows_leave (access.Verify w) a bs q h = verify_cases Leaves l w a q (record { stops = λ e. ends _ _ _ _; done = λ e f. ends _ _ _ _; fails = λ e f. rw (not-true l.marks.latch h) })
  follows_leave (access.TrialWrite r) a bs q h =
      let free = and_left (not l.marks.latch) (eqb r.rereads 0 && eqb r.failures 0) h in
      tried_cases Leaves l t r a (record { done = λ e. free; stops = λ e. stops r; fails = λ e f. misses (not-true l.marks.latch free) r _ })
  follows_leave (access.TrialRead r) a bs q h =
      checked_cases Leaves l t r a q
      (record {
        stops = λ e. stops r;
        counts = λ e. record { again = λ f. h; passes = λ f g. passes (counted r a q); fails = λ f g. misses (not-true l.marks.latch h) (counted r a q) _ };
      })

  acted_leaves : (o : Order) → Leaves (acted o l t)
  acted_leaves o =
      acted_cases Leaves o l t
      (record {
        overrun = λ e. record { block = λ i. ends _ _ _ _; no_block = λ i. refl };
        no_block = λ e f. refl;
        buffer = λ e f. refl;
        no_table = λ e f. refl;
        table = λ e f. refl;
        health = λ e f. refl;
        read = λ b e. refl;
        latched = λ b e f. ends _ _ _ _;
        listed = λ b e f g. rw f;
        write = λ b e f g. rw f;
      })

  goes_on_leaves : (o : Offer) → Leaves (goes_on o l t)
  unfolding goes_on
  goes_on_leaves offer.Command = refl
  goes_on_leaves offer.Read = acted_leaves _
  goes_on_leaves offer.Write = refl
  goes_on_leaves offer.Verify = refl
  goes_on_leaves offer.Act = acted_leaves _

  -- A refusal leaves the state.
  module _ (h : fresh l ≡ true) where
    raised_leaves : (p : Phase) → Leaves (raised p l)
    unfolding raised
    raised_leaves phase.Idle = refl
    raised_leaves (phase.Offered o) = h
    raised_leaves phase.Command = refl
    raised_leaves phase.Data = refl
    raised_leaves (phase.Awaiting x) = h

    lowered_leaves : (p : Phase) (b : ℕ) → Leaves (lowered p l t b)
    unfolding lowered
    lowered_leaves phase.Idle b = h
    lowered_leaves (phase.Offered o) b = lowered_cases Leaves o l t b (record { goes = λ e. goes_on_leaves o; breaks = λ e. refl })
    lowered_leaves phase.Command b = h
    lowered_leaves phase.Data b = h
    lowered_leaves (phase.Awaiting x) b = h

    fed_leaves : (p : Phase) (bs : List ℕ) → Leaves (fed_to p l bs)
    unfolding fed_to
    fed_leaves phase.Idle bs = h
    fed_leaves (phase.Offered o) bs = h
    fed_leaves phase.Command bs = refl
    fed_leaves phase.Data bs = refl
    fed_leaves (phase.Awaiting x) bs = h

    rested_leaves : (p : Phase) → Leaves (rested p l)
    unfolding rested
    rested_leaves phase.Idle = refl
    rested_leaves (phase.Offered o) = refl
    rested_leaves phase.Command = refl
    rested_leaves phase.Data = refl
    rested_leaves (phase.Awaiting x) = h

    answered_leaves : (p : Phase) (a : ℕ) (bs : List ℕ) (q : Bool) → of_phase true (is_fresh l.marks.latch) p ≡ true → Leaves (answered p l t a bs q)
    unfolding answered
    answered_leaves phase.Idle a bs q e = h
    answered_leaves (phase.Offered o) a bs q e = h
    answered_leaves phase.Command a bs q e = h
    answered_leaves phase.Data a bs q e = h
    answered_leaves (phase.Awaiting x) a bs q e =
        fitting_cases Leaves (asks_read x) l a (length bs) (follows x l t a bs q) (record { answer = λ z. h; bytes = λ z f. h; fits = λ z f. follows_leave x a bs q e })

-- EACH CALL keeps it.
module _ (d : Drive) (u : List ℕ) (h : fresh d.state ≡ true) where
  called_leaves : (bs : List ℕ) (x : Turn) → Leaves x → fresh (called d u bs x).step.drive.state ≡ true
  called_leaves bs x k = guarded_cases Leaves (record_ok d) (length u) d.state x (record { damaged = λ e. h; length = λ e f. h; passes = λ e f. k })

  pub trials_begin : (c : Call) → fresh (step_of c d u).step.drive.state ≡ true
  unfolding step_of raise_of lower_of feed_of surface_of reset_of
  trials_begin raise = called_leaves [] (raised d.state.phase d.state) (raised_leaves d.state d.table h d.state.phase)
  trials_begin (lower b) = called_leaves [] (lowered d.state.phase d.state d.table b) (lowered_leaves d.state d.table h d.state.phase b)
  trials_begin (feed bs) = called_leaves bs (fed_to d.state.phase d.state bs) (fed_leaves d.state d.table h d.state.phase bs)
  trials_begin (surface a bs) =
      let q = verifies d.state.phase a && same bs (data_of u) in
      called_leaves bs (answered d.state.phase d.state d.table a bs q) (answered_leaves d.state d.table h d.state.phase a bs q h)
  trials_begin reset = called_leaves [] (rested d.state.phase d.state) (rested_leaves d.state d.table h d.state.phase)

-- Says so after each call of a list.
abbrev pub AllFresh : Drive → List ℕ → List Call → Type 0
AllFresh d u [] = fresh d.state ≡ true
AllFresh d u (c ∷ cs) = (fresh d.state ≡ true) × AllFresh (step_of c d u).step.drive (step_of c d u).bytes cs

all_fresh : (d : Drive) (u : List ℕ) (cs : List Call) → fresh d.state ≡ true → AllFresh d u cs
all_fresh d u [] h = h
all_fresh d u (c ∷ cs) h = (h, all_fresh (step_of c d u).step.drive (step_of c d u).bytes cs (trials_begin d u h c))

pub trials_begin_fresh : (old : Drive) (lent : List ℕ) (cs : List Call) → length lent ≡ 536 → AllFresh (start_of old lent).step.drive (start_of old lent).bytes cs
unfolding start_of
trials_begin_fresh old lent cs h = rw (eq-eqb (length lent) 536 h) (all_fresh started (replicate 536 0) cs refl)

-- ITS FIRST REREAD

-- Answers a trial's write with 0.
abbrev done : Reply
done = record { number = 0; bytes = [] }

rereads_next : (d : Drive) (u : List ℕ) (r : Trial) → record_ok d ≡ true → length u ≡ 536 → d.state.phase ≡ phase.Awaiting (access.TrialWrite r)
    → (replied d u done).step.drive.state.phase ≡ phase.Awaiting (access.TrialRead r)
unfolding surface_of answered fitting follows tried
rereads_next d u r v h e = rw (v, eq-eqb (length u) 536 h, e)

rereads_free : (d : Drive) (u : List ℕ) (r : Trial) → record_ok d ≡ true → length u ≡ 536 → d.state.phase ≡ phase.Awaiting (access.TrialWrite r)
    → (replied d u done).step.drive.state.marks.latch ≡ d.state.marks.latch
unfolding surface_of answered fitting follows tried
rereads_free d u r v h e = rw (v, eq-eqb (length u) 536 h, e)

pub first_reread : (d : Drive) (u : List ℕ) (r : Trial) → record_ok d ≡ true → length u ≡ 536 → d.state.phase ≡ phase.Awaiting (access.TrialWrite r)
    → fresh d.state ≡ true → AwaitsReread (replied d u done).step.drive r
first_reread d u r v h e f =
    let all = subst (λ (p : Phase). of_phase true (is_fresh d.state.marks.latch) p ≡ true) e f in
    let free = and_left (not d.state.marks.latch) (eqb r.rereads 0 && eqb r.failures 0) all in
    let both = and_right (not d.state.marks.latch) (eqb r.rereads 0 && eqb r.failures 0) all in
    record {
      phase = rereads_next d u r v h e;
      free = rereads_free d u r v h e ∙ not-true d.state.marks.latch free;
      none = eqb-true r.rereads 0 (and_left (eqb r.rereads 0) (eqb r.failures 0) both);
      clean = eqb-true r.failures 0 (and_right (eqb r.rereads 0) (eqb r.failures 0) both);
    }
