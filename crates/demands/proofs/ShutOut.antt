-- WHAT DEMAND 2 SHUTS OUT, of the definitions: the controller that fails all commands, that answers from its buffer, that reports
-- writes good that were never made, "no spare" while one is unused, one that obeys an earlier command. A status 4 that is not E
-- is shut out by Status4. A command that stores has ended where it asks for the store: what is said of an ending is said of one that
-- waits too.
use mathlib.Core.Path.{◌≡◌, refl, sym, ap, subst, ◌∙◌}
use mathlib.Core.Bool.{Bool, true, false, cond, not, ◌&&◌, ◌||◌}
use mathlib.Core.List.{List, [], ◌∷◌, ◌++◌}
use Prim.Native.Nat.{ℕ, ◌+◌, ◌≤◌}
use native.Mathlib.Omega.{arith}
use lib.Dec.{eqb, ltb}
use lib.ListN.{length, get_or, take}
use lib.Seq.{take_all}
use borrow.Author.Tests.{eqb-true, eq-eqb, ne_eqb, leb-true, ltb-false, le-ltb}
use Rattle.geometry.specs.Geometry.{is_block}
use Rattle.geometry.specs.declared.Block.{Block}
use Rattle.logic.proofs.Bools.{branch, clash, and_left, and_right, and_false}
use Rattle.table.specs.declared.Table.{Table}
use Rattle.table.specs.Tables.{spare_list, killed_next}
use Rattle.buffer.specs.Runs.{same}
use Rattle.buffer.proofs.Compare.{same_equal}
use Rattle.drive.specs.declared.Cause.{Cause}
use Rattle.drive.specs.declared.Access.{Access}
use Rattle.drive.specs.declared.Access.TheVariants as access
use Rattle.drive.specs.declared.Answer.{Answer}
use Rattle.drive.specs.declared.Answer.TheVariants as answer
use Rattle.drive.specs.declared.Close.{Close}
use Rattle.drive.specs.declared.Change.{Change}
use Rattle.drive.specs.declared.Change.TheVariants as change
use Rattle.drive.specs.declared.Drive.{Drive}
use Rattle.drive.specs.declared.Ending.{Ending}
use Rattle.drive.specs.declared.Ending.TheVariants as ending
use Rattle.drive.specs.declared.Marks.{Marks}
use Rattle.drive.specs.declared.Order.{Order}
use Rattle.drive.specs.declared.Outcome.{Outcome}
use Rattle.drive.specs.declared.Outcome.TheVariants as outcome
use Rattle.drive.specs.declared.Part.{Part}
use Rattle.drive.specs.declared.Part.TheVariants as part
use Rattle.drive.specs.declared.Phase.{Phase}
use Rattle.drive.specs.declared.Phase.TheVariants as phase
use Rattle.drive.specs.declared.Retry.{Retry}
use Rattle.drive.specs.declared.Seen.{Seen}
use Rattle.drive.specs.declared.State.{State}
use Rattle.drive.specs.declared.Target.{Target}
use Rattle.drive.specs.declared.Trial.{Trial}
use Rattle.drive.specs.declared.Turn.{Turn}
use Rattle.drive.specs.Words.{data_of, with_data, row_of, fails, status_of, is_read, order_of}
use Rattle.drive.specs.Records.{record_ok, state_ok, awaits}
use Rattle.drive.specs.Values.{Typed}
use Rattle.drive.specs.Results.{Out, changed, four, part_left, status_left, out_of, with_marks, numbered, ended as at_end, reported, report, ends, stores, wants_store, finish, clean}
use Rattle.drive.specs.Handshake.{first_read, no_number, writes, overruns, acted}
use Rattle.drive.specs.Retries.{met, after_read}
use Rattle.drive.specs.Sparing.{tried, counted, checked}
use Rattle.drive.specs.Access.{is_compared, fitting, kept_part, is_undone, store_marks, store_answered, reads, write_answered, verify_answered, follows, answered}
use Rattle.drive.specs.Calls.{lower, surface, lower_of, surface_of, step_of}
use Rattle.drive.specs.History.{bit, good}
use Rattle.drive.specs.Over.{Reply, command, Completes}
use Rattle.drive.specs.Status4.{failures, numbers, left_by}
use Rattle.drive.specs.TableRead.{OffersRead}
use Rattle.drive.specs.Views.{of_answer}
use Rattle.records.proofs.Ladders.{finish_cases, acted_cases, NextSpare, Missed, Stopped, tried_cases, checked_cases, lost_cases, settled_cases, write_cases, verify_cases}
use Rattle.demands.proofs.Parts.{data_put, data_with}
use Rattle.demands.proofs.Lengths.{data_long}
use Rattle.demands.proofs.Numbers.{acts_on}
use Rattle.demands.proofs.Awaited.{of_phase}
use Rattle.demands.proofs.Statuses.{good_is}
use Rattle.demands.proofs.Sim.{state_of}
use Rattle.demands.proofs.Valid.{step_valid}
use Rattle.demands.proofs.Status4.{status_4}

-- Says whether an answer asks for the store.
abbrev pub is_store : Answer → Bool
is_store answer.Wait = false
is_store (answer.Offer o) = false
is_store (answer.Read s) = false
is_store (answer.Write s) = false
is_store answer.Store = true
is_store answer.Finished = false
is_store (answer.Refused r) = false

-- Says of the ending that waits for the store what f says of it, and false where none does.
abbrev closing : (Ending → Bool) → Access → Bool
closing f (access.Start k) = false
closing f (access.Store k) = f k.ending
closing f (access.Read r) = false
closing f (access.Write w) = false
closing f (access.Verify w) = false
closing f (access.TrialWrite r) = false
closing f (access.TrialRead r) = false

abbrev waiting : (Ending → Bool) → Phase → Bool
waiting f p = of_phase false (closing f) p

-- Says whether a call ended a command well: it finished, good by its status 1, or asks for the store with an ending that is good.
abbrev pub ends_well : Out → Bool
ends_well y =
    cond (of_answer y.step.answer).finished (not (bit 1 (get_or y.bytes 0 0)))
    (is_store y.step.answer && waiting (λ e. not (fails e)) y.step.drive.state.phase)

-- Says whether an access comes before any verify of what it writes: it is no verify and no reread, a trial's write comes before the
-- trial's first reread, and the store is that of a command which failed.
abbrev pub is_unread : Access → Bool
is_unread (access.Start k) = true
is_unread (access.Store k) = fails k.ending
is_unread (access.Read r) = true
is_unread (access.Write w) = true
is_unread (access.Verify w) = false
is_unread (access.TrialWrite r) = eqb r.rereads 0 && eqb r.failures 0
is_unread (access.TrialRead r) = false

abbrev pub unread : Phase → Bool
unread p = of_phase true is_unread p

not_compared : (p : Phase) → unread p ≡ true → awaits is_compared p ≡ false
not_compared phase.Idle h = refl
not_compared (phase.Offered o) h = refl
not_compared phase.Command h = refl
not_compared phase.Data h = refl
not_compared (phase.Awaiting (access.Start k)) h = refl
not_compared (phase.Awaiting (access.Store k)) h = refl
not_compared (phase.Awaiting (access.Read r)) h = refl
not_compared (phase.Awaiting (access.Write w)) h = refl
not_compared (phase.Awaiting (access.Verify w)) h = sym h
not_compared (phase.Awaiting (access.TrialWrite r)) h = refl
not_compared (phase.Awaiting (access.TrialRead r)) h = sym h

module _ (t : Table) (cs bs u : List ℕ) where
  -- Says that a turn does not end well.
  abbrev pub Bad : Turn → Type 0
  Bad x = ends_well (out_of t cs bs u x) ≡ true → ⊥

  -- A failure is one, whatever becomes of the table, reported at once or after the store.
  pub bad_report : (l : State) (m : Marks) (c : Change) (e : Ending) (s : Seen) (unstored unsettled : Bool) (p : Part) → (fails e || unstored) ≡ true → Bad (report l m c e s unstored unsettled p)
  unfolding status_left good
  bad_report l m c e s unstored unsettled p f h = clash h (good_is (surface 0 []) answer.Finished e s unstored unsettled m.fresh (part_left p t bs u) ∙ ap not f)

  pub bad_finish : (l : State) (c : Change) (e : Ending) (s : Seen) (p : Part) → fails e ≡ true → Bad (finish l c e s p)
  bad_finish l c e s p f =
      finish_cases Bad l c e s p (record { asks = λ q h. clash h (ap not f); reports = λ q. bad_report l (at_end l.marks c e) c e s _ _ p (rw f) })

  bad_end : (l : State) (e : Ending) (p : Part) → fails e ≡ true → Bad (ends l e p)
  bad_end l e p f = bad_report l (at_end l.marks change.Keep e) change.Keep e clean false false p (rw f)

  -- It asks for no verify.
  unread_finish : (l : State) (c : Change) (e : Ending) (s : Seen) (p : Part) → fails e ≡ true → unread (finish l c e s p).state.phase ≡ true
  unread_finish l c e s p f = finish_cases (λ (x : Turn). unread x.state.phase ≡ true) l c e s p (record { asks = λ q. f; reports = λ q. refl })

  -- NO COMMAND FOR A BLOCK ENDS WELL WITHOUT AN ACCESS OF ITS OWN: acting on it does not end it well. Nor does it ask for a verify.
  pub acts_first : (o : Order) (l : State) → (is_block o.number ≡ true → Bad (acted o l t)) × (unread (acted o l t).state.phase ≡ true)
  acts_first o l =
      acted_cases (λ (x : Turn). (is_block o.number ≡ true → Bad x) × (unread x.state.phase ≡ true)) o l t
      (record {
        overrun = λ e. record {
          block = λ j. (λ i. bad_finish l _ ending.Overrun _ _ refl, unread_finish l _ ending.Overrun _ _ refl);
          no_block = λ j. (λ i. bad_end l _ _ refl, refl);
        };
        no_block = λ e f. (λ i. bad_end l _ _ refl, refl);
        buffer = λ e f. (λ i h. not_block 0xFFFFFE refl f i, refl);
        no_table = λ e f. (λ i. bad_end l (ending.NoTable (not (is_read o.kind))) _ refl, refl);
        table = λ e f. (λ i h. not_block 0xFFFFFF refl f i, refl);
        health = λ e f. (λ i h. not_block 0xFFFFFD refl f i, refl);
        read = λ b e. (λ i h. clash h refl, refl);
        latched = λ b e f. (λ i. bad_finish l _ ending.Latched _ _ refl, unread_finish l _ ending.Latched _ _ refl);
        listed = λ b e f g. (λ i h. clash h refl, refl);
        write = λ b e f g. (λ i h. clash h refl, refl);
      })
    where
      not_block : (m : ℕ) → is_block m ≡ false → eqb o.number m ≡ true → is_block o.number ≡ true → ⊥
      not_block m e p i = clash i (ap is_block (eqb-true o.number m p) ∙ e)

  pub needs_access : (o : Order) (l : State) → is_block o.number ≡ true → Bad (acted o l t)
  needs_access o l = (acts_first o l).0

  -- Says that a turn neither ends well nor asks for a verify.
  pub record Fails (x : Turn) : Type 0 where
    pub bad : Bad x
    pub unread : unread x.state.phase ≡ true

  -- A sector that failed is left by such a turn, and a trial is stopped by one.
  module _ (P : Turn → Type 0) (h : (x : Turn) → Fails x → P x) (l : State) where
    pub ended : (c : Change) (e : Ending) (s : Seen) → fails e ≡ true → P (finish l c e s part.Kept)
    ended c e s f = h _ (record { bad = bad_finish l c e s part.Kept f; unread = unread_finish l c e s part.Kept f })

    pub nexts : (n : ℕ) (c : Change) (b : Block) (s : Seen) {x y : Cause} → NextSpare P n l c b s x y
    nexts n c b s = record { spare = λ e. h _ (record { bad = λ z. clash z refl; unread = refl }); no_spare = λ e. ended c _ s refl }

    pub misses : (r : Trial) (s : Seen) {x : Cause} → Missed P l t r s x
    misses r s = record { dead = λ e. nexts _ _ r.block s; left = λ e. nexts _ _ r.block s }

    pub stops : (r : Trial) → Stopped P l r
    stops r = record { dead = λ e. ended _ _ _ refl; present = λ e. ended _ _ _ refl }

  -- A WRITE REPORTED GOOD WAS MADE. A write command ends well by its write only if that is a plain write's, answered 0;
  module _ (l : State) (w : Target) (a : ℕ) where
    pub write_made : ends_well (out_of t cs bs u (write_answered l t w a)) ≡ true → (a ≡ 0) × (w.verify ≡ false)
    write_made =
        write_cases N l t w a
        (record { verifies = λ e f h. clash h refl; done = λ e f h. (eqb-true a 0 e, f); stops = λ e f. ended N not_well l change.Keep _ _ refl; moves = λ e f. nexts N not_well l _ _ w.block _ })
      where
        N : Turn → Type 0
        N x = ends_well (out_of t cs bs u x) ≡ true → (a ≡ 0) × (w.verify ≡ false)

        not_well : (x : Turn) → Fails x → N x
        not_well x f h = absurd (f.bad h)

    -- by its first verify only if that brought the same bytes;
    pub verify_made : ends_well (out_of t cs bs u (verify_answered l w a (eqb a 0 && same bs (data_of u)))) ≡ true → (a ≡ 0) × (bs ≡ data_of u)
    verify_made =
        verify_cases N l w a (eqb a 0 && same bs (data_of u))
        (record {
          stops = λ e h. absurd (bad_finish l _ ending.Latched _ _ refl h);
          done = λ e f h. (eqb-true a 0 (and_left (eqb a 0) (same bs (data_of u)) f), same_equal bs (data_of u) (and_right (eqb a 0) (same bs (data_of u)) f));
          fails = λ e f h. clash h refl;
        })
      where
        N : Turn → Type 0
        N x = ends_well (out_of t cs bs u x) ≡ true → (a ≡ 0) × (bs ≡ data_of u)

  -- by its store only if that is answered 0, and the ending that waits is good.
  pub store_made : (k : Close) (l : State) (a : ℕ) → ends_well (out_of t cs bs u (store_answered k l a)) ≡ true → (a ≡ 0) × (fails k.ending ≡ false)
  unfolding store_answered
  store_made k l a h = go (fails k.ending) refl (eqb a 0) refl
    where
      bad : (fails k.ending || is_undone a) ≡ true → ⊥
      bad f = bad_report l (store_marks l.marks a) change.Keep k.ending (met a k.seen) (is_undone a) (eqb a 3) part.Kept f h

      go : (p : Bool) → fails k.ending ≡ p → (q : Bool) → eqb a 0 ≡ q → (a ≡ 0) × (fails k.ending ≡ false)
      go true p q' q = absurd (bad (rw p))
      go false p true q = (eqb-true a 0 q, p)
      go false p false q = absurd (bad (rw (p, q)))

  module _ (l : State) (r : Trial) (a : ℕ) where
    -- A trial's first reread is asked for only after its write was answered 0,
    pub trial_made : awaits is_compared (tried l t r a).state.phase ≡ true → a ≡ 0
    trial_made = tried_cases N l t r a (record { done = λ e h. eqb-true a 0 e; stops = λ e. stops N not_read l r; fails = λ e f. misses N not_read l r _ })
      where
        N : Turn → Type 0
        N x = awaits is_compared x.state.phase ≡ true → a ≡ 0

        not_read : (x : Turn) → Fails x → N x
        not_read x f h = clash h (not_compared x.state.phase f.unread)

    -- and a command ends well by a trial only with its last reread, and at most 30 failures.
    pub trial_passed : (equal : Bool) → ends_well (out_of t cs bs u (checked l t r a equal)) ≡ true → (100 ≤ (counted r a equal).rereads) × ((counted r a equal).failures ≤ 30)
    trial_passed equal =
        let x : Trial = counted r a equal in
        checked_cases N l t r a equal
        (record {
          stops = λ e. stops N not_well l r;
          counts = λ e. record {
            again = λ f h. clash h refl;
            passes = λ f g. let z : (100 ≤ x.rereads) × (x.failures ≤ 30) = (ltb-false x.rereads 100 f, leb-true x.failures 30 g) in record { moved = λ i h. z; listed = λ i j h. z; stays = λ i j h. z };
            fails = λ f g. misses N not_well l x _;
          };
        })
      where
        N : Turn → Type 0
        N x = ends_well (out_of t cs bs u x) ≡ true → (100 ≤ (counted r a equal).rereads) × ((counted r a equal).failures ≤ 30)

        not_well : (x : Turn) → Fails x → N x
        not_well x f h = absurd (f.bad h)

-- Says whether a call finished with "no spare", or asks for the store with that ending.
abbrev pub says_no_spare : Out → Bool
says_no_spare y =
    cond (of_answer y.step.answer).finished (bit 64 (get_or y.bytes 1 0)) (is_store y.step.answer && waiting (λ e. bit 64 (row_of e).1) y.step.drive.state.phase)

-- "NO SPARE" ONLY WITH 32 ENTRIES LISTED: the table as the call leaves it has no unused spare.
module _ (l : State) (t : Table) (cs bs u : List ℕ) where
  abbrev pub Full : Turn → Type 0
  Full x = says_no_spare (out_of t cs bs u x) ≡ true → 32 ≤ (out_of t cs bs u x).step.drive.table.nspares

  quiet : (c : Change) (e : Ending) (s : Seen) (p : Part) → bit 64 (row_of e).1 ≡ false → Full (finish l c e s p)
  unfolding status_left status_of
  quiet c e s p h = finish_cases Full l c e s p (record { asks = λ q z. clash z h; reports = λ q z. clash z h })

  spent : (c : Change) (s : Seen) (p : Part) → 32 ≤ (changed c t bs).nspares → Full (finish l c ending.NoSpare s p)
  spent c s p h = finish_cases Full l c ending.NoSpare s p (record { asks = λ q z. h; reports = λ q z. h })

  killed_most : 32 ≤ t.nspares + 1 → 32 ≤ (killed_next t).nspares
  unfolding killed_next
  killed_most h = branch (λ (x : Table). 32 ≤ x.nspares) (ltb t.nspares 32) (λ e. h) (λ e. ltb-false t.nspares 32 e)

  left_full : (b : Block) (s : Seen) {x y : Cause} → NextSpare Full t.nspares l change.Keep b s x y
  left_full b s = record { spare = λ g z. clash z refl; no_spare = λ g. spent change.Keep s part.Kept (ltb-false t.nspares 32 g) }

  misses_full : (r : Trial) (s : Seen) {x : Cause} → Missed Full l t r s x
  misses_full r s =
      record {
        dead = λ e. record { spare = λ g z. clash z refl; no_spare = λ g. spent (change.Kill _) s part.Kept (killed_most (ltb-false (t.nspares + 1) 32 g)) };
        left = λ e. left_full r.block s;
      }

  stops_full : (r : Trial) → Stopped Full l r
  unfolding bit
  stops_full r = record { dead = λ e. quiet _ ending.Latched _ _ refl; present = λ e. quiet _ ending.Latched _ _ refl }

  pub no_spare_tried : (r : Trial) (a : ℕ) → Full (tried l t r a)
  no_spare_tried r a = tried_cases Full l t r a (record { done = λ e z. clash z refl; stops = λ e. stops_full r; fails = λ e f. misses_full r _ })

  pub no_spare_checked : (r : Trial) (a : ℕ) (equal : Bool) → Full (checked l t r a equal)
  unfolding bit
  no_spare_checked r a equal =
      checked_cases Full l t r a equal
      (record {
        stops = λ e. stops_full r;
        counts = λ e. record {
          again = λ f z. clash z refl;
          passes = λ f g. record { moved = λ i. quiet _ ending.Moved _ _ refl; listed = λ i j. quiet _ ending.Good _ _ refl; stays = λ i j. quiet _ ending.Good _ _ refl };
          fails = λ f g. misses_full (counted r a equal) _;
        };
      })

  pub no_spare_written : (w : Target) (a : ℕ) → Full (write_answered l t w a)
  unfolding bit
  no_spare_written w a =
      write_cases Full l t w a
      (record { verifies = λ e f z. clash z refl; done = λ e f. quiet _ ending.Good _ _ refl; stops = λ e f. quiet _ ending.Latched _ _ refl; moves = λ e f. left_full w.block _ })

  -- A first verify and a read do not say so at all.
  pub no_spare_verified : (w : Target) (a : ℕ) (equal : Bool) → Full (verify_answered l w a equal)
  unfolding bit
  no_spare_verified w a equal =
      verify_cases Full l w a equal (record { stops = λ e. quiet _ ending.Latched _ _ refl; done = λ e f. quiet _ ending.Good _ _ refl; fails = λ e f z. clash z refl })

  -- The finish after the store says what the ending that waited says.
  pub no_spare_stored : (k : Close) (a : ℕ) → says_no_spare (out_of t cs bs u (store_answered k l a)) ≡ bit 64 (row_of k.ending).1
  unfolding store_answered status_left status_of
  no_spare_stored k a = refl

  pub no_spare_read : (x : Outcome) (p : Part) → Full (reads x l t p)
  unfolding reads bit
  no_spare_read (outcome.Done r) p = quiet _ ending.Good _ p refl
  no_spare_read (outcome.Again r) p = λ z. clash z refl
  no_spare_read (outcome.Settle r) p = settled_cases Full l r p (record { below = λ e. quiet _ ending.Good _ p refl; latched = λ e f. quiet _ ending.Latched _ p refl; tries = λ e f z. clash z refl })
  no_spare_read (outcome.Lost r) p =
      lost_cases Full l t r p (record { listed = λ e. quiet _ ending.Failed _ p refl; entered = λ e f. quiet _ ending.Failed _ p refl; full = λ e f. quiet _ ending.BadFull _ p refl })
  no_spare_read (outcome.Stop r) p = quiet _ ending.Latched _ p refl

-- Returns the result of a command that ended well and finished with these bytes in the data part: good, or failed by bit 0 alone for
-- want of a store; and of one that asks for the store first.
abbrev finished_with : Bool → Table → List ℕ → State → Marks → Seen → List ℕ → Out
finished_with unstored t cs l m s bs =
    record { step = record { drive = record { table = t; causes = cs; state = with_marks l (reported m) phase.Idle }; answer = answer.Finished }; bytes = four (status_of ending.Good s unstored false m.fresh) ++ bs }

abbrev pub good_with : Table → List ℕ → State → Marks → Seen → List ℕ → Out
good_with = finished_with false

abbrev pub fails_with : Table → List ℕ → State → Marks → Seen → List ℕ → Out
fails_with = finished_with true

abbrev pub good_first : Seen → Close
good_first s = record { ending = ending.Good; seen = s }

abbrev pub stores_with : Table → List ℕ → State → Seen → List ℕ → List ℕ → Out
stores_with t cs l s u bs =
    record { step = record { drive = record { table = t; causes = cs; state = with_marks (numbered l) l.marks (phase.Awaiting (access.Store (good_first s))) }; answer = answer.Store }; bytes = with_data u bs }

-- What fails for want of a store stores nothing: it is under the latch.
wants_none : (m : Marks) → wants_store m ≡ true → stores m ≡ false
wants_none m h = and_false (m.known && m.changed) (not m.latch) (ap not (and_left m.latch m.moved h))

-- A FIRST GOOD READ IS GOOD, with those bytes, if nothing is to be stored, and under the latch no place is unstored.
module _ (r : Retry) (l : State) (t : Table) (cs u bs : List ℕ) (equal : Bool) (f : r.first ≡ true) (g : r.good ≡ false) (lu : length u ≡ 536) (lb : length bs ≡ 532) where
  pub first_good : stores l.marks ≡ false → wants_store l.marks ≡ false → out_of t cs bs u (answered (phase.Awaiting (access.Read r)) l t 0 bs equal) ≡ good_with t cs l l.marks r.seen bs
  unfolding answered fitting follows after_read reads kept_part part_left status_left finish
  first_good e h = rw (eq-eqb (length bs) 532 lb, f, g, e, h, take_all 532 bs (omega arith), data_put u bs lu lb, data_with u bs lu)

  -- Under the latch with a place unstored it fails, by bit 0 alone.
  pub first_fails : wants_store l.marks ≡ true → out_of t cs bs u (answered (phase.Awaiting (access.Read r)) l t 0 bs equal) ≡ fails_with t cs l l.marks r.seen bs
  unfolding answered fitting follows after_read reads kept_part part_left status_left finish
  first_fails h = rw (eq-eqb (length bs) 532 lb, f, g, wants_none l.marks h, h, take_all 532 bs (omega arith), data_put u bs lu lb, data_with u bs lu)

  -- With something to store the store comes first,
  pub first_stores : stores l.marks ≡ true → out_of t cs bs u (answered (phase.Awaiting (access.Read r)) l t 0 bs equal) ≡ stores_with t cs l r.seen u bs
  unfolding answered fitting follows after_read reads kept_part part_left status_left finish
  first_stores e = rw (eq-eqb (length bs) 532 lb, f, g, e, take_all 532 bs (omega arith), data_put u bs lu lb)

-- and if that is done, the read is good with those bytes.
pub then_good : (s : Seen) (l : State) (t : Table) (cs u bs : List ℕ) (equal : Bool) → length u ≡ 536
    → out_of t cs [] (with_data u bs) (answered (phase.Awaiting (access.Store (good_first s))) l t 0 [] equal) ≡ good_with t cs l (store_marks l.marks 0) (met 0 s) bs
unfolding answered fitting follows store_answered part_left status_left
then_good s l t cs u bs equal lu = rw (data_with u bs lu)

-- A READ OF A BLOCK WHOSE FIRST ANSWER IS 0 is good with those bytes: at once if nothing is to be stored and under the latch no
-- place is unstored, and after its store if that is done.
module _ (v : ℕ) (d : Drive) (u bs : List ℕ) (o : OffersRead v d) (ty : Typed d) (lu : length u ≡ 536) (lb : length bs ≡ 532) (i : is_block v ≡ true) where
  abbrev order : Order
  order = order_of d.state.command

  abbrev asked : Out
  asked = out_of d.table d.causes [] u (first_read order d.state (spare_list d.table))

  not_this : (m : ℕ) → is_block m ≡ false → eqb order.number m ≡ false
  not_this m e = ne_eqb order.number m (λ q. clash (ap is_block (sym q ∙ o.number) ∙ i) e)

  number_is : no_number order.kind order.number ≡ false
  unfolding no_number
  number_is = rw (o.number, i)

  acts_read : acted order d.state d.table ≡ first_read order d.state (spare_list d.table)
  unfolding acted
  acts_read = rw (le-ltb 532 d.state.fed o.few, number_is, not_this 0xFFFFFE refl, o.known, not_this 0xFFFFFF refl, not_this 0xFFFFFD refl, o.kind)

  -- The lower asks for the block's sector,
  pub asks_for_it : lower_of d u 0x55 ≡ asked
  unfolding part_left status_left
  asks_for_it = acts_on v d u _ o lu acts_read

  asked_ok : record_ok asked.step.drive ≡ true
  unfolding step_of
  asked_ok = subst (λ (x : Out). record_ok x.step.drive ≡ true) asks_for_it (step_valid (lower 0x55) d u (omega arith) ty o.valid)

  -- and its answer 0 ends the command, good, with the bytes that it brought, at once
  pub gives_it : stores d.state.marks ≡ false → wants_store d.state.marks ≡ false → surface_of asked.step.drive u 0 bs ≡ good_with d.table d.causes asked.step.drive.state d.state.marks clean bs
  unfolding surface_of
  gives_it e h = rw (asked_ok, eq-eqb (length u) 536 lu) (first_good _ asked.step.drive.state d.table d.causes u bs _ refl refl lu lb e h)

  -- or failed by bit 0 alone, under the latch with a place unstored;
  pub fails_it : wants_store d.state.marks ≡ true → surface_of asked.step.drive u 0 bs ≡ fails_with d.table d.causes asked.step.drive.state d.state.marks clean bs
  unfolding surface_of
  fails_it h = rw (asked_ok, eq-eqb (length u) 536 lu) (first_fails _ asked.step.drive.state d.table d.causes u bs _ refl refl lu lb h)

  -- or it asks for the store,
  abbrev storing : Out
  storing = stores_with d.table d.causes asked.step.drive.state clean u bs

  pub stores_it : stores d.state.marks ≡ true → surface_of asked.step.drive u 0 bs ≡ storing
  unfolding surface_of
  stores_it e = rw (asked_ok, eq-eqb (length u) 536 lu) (first_stores _ asked.step.drive.state d.table d.causes u bs _ refl refl lu lb e)

  storing_ok : record_ok storing.step.drive ≡ true
  unfolding record_ok state_ok
  storing_ok = rw o.known (rw o.offered at o.valid)

  -- and that store's answer 0 ends it, good, with those bytes.
  pub then_gives_it : surface_of storing.step.drive storing.bytes 0 [] ≡ good_with d.table d.causes storing.step.drive.state (store_marks d.state.marks 0) clean bs
  unfolding surface_of
  then_gives_it = rw (storing_ok, eq-eqb (length (with_data u bs)) 536 (data_long u bs lu lb)) (then_good clean storing.step.drive.state d.table d.causes u bs _ lu)

  -- However it ends, its status 4 is the number of the R rereads answered 1 or 2, R being the fifth byte of the command.
  pub status_4_of_it : (x : Reply) (xs : List Reply) → Completes command asked.step.drive u (x ∷ xs)
      → get_or (left_by asked.step.drive u (x ∷ xs)) 3 0 ≡ cond (eqb x.number 0) 0 (failures (take (get_or d.state.command 4 0) (numbers xs)))
  status_4_of_it x xs h = status_4 asked.step.drive u _ x xs (record { phase = refl; first = refl; clean = refl }) h

-- Says that two turns agree in all but the command bytes and counts that they keep.
pub record Alike (x y : Turn) : Type 0 where
  pub answer : x.answer ≡ y.answer
  pub change : x.change ≡ y.change
  pub leaves : x.leaves ≡ y.leaves
  pub phase : x.state.phase ≡ y.state.phase
  pub marks : x.state.marks ≡ y.state.marks

over_cond : {A : Type 0} (f : Turn → A) (q : Bool) (x y : Turn) → f (cond q x y) ≡ cond q (f x) (f y)
over_cond f true x y = refl
over_cond f false x y = refl

-- ACTING ON A COMMAND DEPENDS ON ITS OWN OPCODE, NUMBER, R, T AND COUNT OF DATA BYTES, ON TABLE AND MARKS, and on nothing else: two
-- states that differ in all else give the same answer, change of the table, phase and marks, and leave the same in the buffer.
pub acts_alike : (o : Order) (p p' : Phase) (m : Marks) (c c' : List ℕ) (n n' f k k' : ℕ) (t : Table) → Alike (acted o (state_of p m c n f k) t) (acted o (state_of p' m c' n' f k') t)
unfolding acted writes overruns finish
acts_alike o p p' m c c' n n' f k k' t =
    record {
      answer = simp (over_cond (λ (x : Turn). x.answer));
      change = simp (over_cond (λ (x : Turn). x.change));
      leaves = simp (over_cond (λ (x : Turn). x.leaves));
      phase = simp (over_cond (λ (x : Turn). x.state.phase));
      marks = simp (over_cond (λ (x : Turn). x.state.marks));
    }
