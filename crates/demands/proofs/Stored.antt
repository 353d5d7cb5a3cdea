-- A COMMAND FOR A BLOCK REPORTED GOOD LEAVES NOTHING TO STORE, and under the latch no place unstored: document 02, request 7, "reports
-- failed (bit 0) unless that store is done"; "the command fails for that reason only while some block's place is unstored."
use mathlib.Core.Path.{◌≡◌, refl, sym, ap, ◌∙◌}
use mathlib.Core.Bool.{Bool, true, false, not, ◌||◌}
use mathlib.Core.List.{List, []}
use Prim.Native.Nat.{ℕ, ◌+◌}
use lib.Dec.{eqb}
use lib.ListN.{length, get_or}
use borrow.Author.Tests.{not-true}
use Rattle.logic.proofs.Bools.{clash, and_false, or_right}
use Rattle.geometry.specs.declared.Block.{Block}
use Rattle.table.specs.declared.Table.{Table}
use Rattle.drive.specs.declared.Access.{Access}
use Rattle.drive.specs.declared.Access.TheVariants as access
use Rattle.drive.specs.declared.Answer.TheVariants as answer
use Rattle.drive.specs.declared.Cause.{Cause}
use Rattle.drive.specs.declared.Change.{Change}
use Rattle.drive.specs.declared.Change.TheVariants as change
use Rattle.drive.specs.declared.Drive.{Drive}
use Rattle.drive.specs.declared.Ending.{Ending}
use Rattle.drive.specs.declared.Marks.{Marks}
use Rattle.drive.specs.declared.Outcome.{Outcome}
use Rattle.drive.specs.declared.Outcome.TheVariants as outcome
use Rattle.drive.specs.declared.Part.{Part}
use Rattle.drive.specs.declared.Part.TheVariants as part
use Rattle.drive.specs.declared.Phase.{Phase}
use Rattle.drive.specs.declared.Phase.TheVariants as phase
use Rattle.drive.specs.declared.Seen.{Seen}
use Rattle.drive.specs.declared.State.{State}
use Rattle.drive.specs.declared.Trial.{Trial}
use Rattle.drive.specs.declared.Turn.{Turn}
use Rattle.drive.specs.Words.{fails}
use Rattle.drive.specs.Records.{record_ok}
use Rattle.drive.specs.Results.{Out, part_left, status_left, out_of, ended, report, stores, wants_store, finish}
use Rattle.drive.specs.Retries.{met, after_read}
use Rattle.drive.specs.Sparing.{counted}
use Rattle.drive.specs.Access.{asks_read, kept_part, is_undone, store_marks, store_answered, reads, follows, answered}
use Rattle.drive.specs.Calls.{surface, surface_of}
use Rattle.drive.specs.History.{bit, good}
use Rattle.drive.specs.Views.{of_answer}
use Rattle.records.proofs.Ladders.{guarded_cases, fitting_cases, finish_cases, NextSpare, Missed, Stopped, Verified, tried_cases, checked_cases, start_cases, lost_cases, settled_cases, write_cases, verify_cases}
use Rattle.demands.proofs.Statuses.{good_is}

-- Says that marks leave nothing to store, and under the latch no place unstored.
abbrev pub Stored : Marks → Type 0
Stored m = (stores m ≡ false) × (wants_store m ≡ false)

-- Says so of what a call gives, if it finished a command that is good by bit 0 of status 1.
abbrev pub StoredIfGood : Out → Type 0
StoredIfGood y = (of_answer y.step.answer).finished ≡ true → bit 1 (get_or y.bytes 0 0) ≡ false → Stored y.step.drive.state.marks

-- A store that is done clears both marks.
cleared : (m : Marks) (a : ℕ) → is_undone a ≡ false → Stored (store_marks m a)
cleared m a h = rw (h, and_false m.changed false refl, and_false m.known false refl, and_false m.moved false refl) (refl, and_false (m.latch || eqb a 3) false refl)

module _ (l : State) (t : Table) (cs bs u : List ℕ) where
  -- Says so of a turn.
  abbrev S : Turn → Type 0
  S x = StoredIfGood (out_of t cs bs u x)

  -- A report has bit 0 clear only if no store is wanting,
  reports : (m : Marks) (c : Change) (e : Ending) (s : Seen) (unstored unsettled : Bool) (p : Part) → (unstored ≡ false → Stored m) → S (report l m c e s unstored unsettled p)
  unfolding status_left good
  reports m c e s unstored unsettled p h f b =
      h (or_right (fails e) unstored (not-true (fails e || unstored) (sym (good_is (surface 0 []) answer.Finished e s unstored unsettled m.fresh (part_left p t bs u)) ∙ ap not b)))

  -- and so has each end of a command, which asks for its store first.
  ends : (c : Change) (e : Ending) (s : Seen) (p : Part) → S (finish l c e s p)
  ends c e s p = finish_cases S l c e s p (record { asks = λ q f. clash f refl; reports = λ q. reports (ended l.marks c e) c e s _ _ p (λ w. (q, w)) })

  nexts : (n : ℕ) (c : Change) (b : Block) (s : Seen) {x y : Cause} → NextSpare S n l c b s x y
  nexts n c b s = record { spare = λ e f. clash f refl; no_spare = λ e. ends c _ s _ }

  misses : (r : Trial) (s : Seen) {x : Cause} → Missed S l t r s x
  misses r s = record { dead = λ e. nexts (t.nspares + 1) _ r.block s; left = λ e. nexts t.nspares change.Keep r.block s }

  stops : (r : Trial) → Stopped S l r
  stops r = record { dead = λ e. ends _ _ _ _; present = λ e. ends _ _ _ _ }

  passes : (r : Trial) → Verified S l t r
  passes r = record { moved = λ e. ends _ _ _ _; listed = λ e f. ends _ _ _ _; stays = λ e f. ends _ _ _ _ }

  reads_store : (o : Outcome) (p : Part) → S (reads o l t p)
  unfolding reads
  reads_store (outcome.Done r) p = ends _ _ _ p
  reads_store (outcome.Again r) p = λ f. clash f refl
  reads_store (outcome.Settle r) p = settled_cases S l r p (record { below = λ e. ends _ _ _ p; latched = λ e f. ends _ _ _ p; tries = λ e f z. clash z refl })
  reads_store (outcome.Lost r) p = lost_cases S l t r p (record { listed = λ e. ends _ _ _ p; entered = λ e f. ends _ _ _ p; full = λ e f. ends _ _ _ p })
  reads_store (outcome.Stop r) p = ends _ _ _ p

  -- Each access leads to such a turn; the start's finish no command.
  follows_store : (x : Access) (a : ℕ) (q : Bool) → S (follows x l t a bs q)
  unfolding follows store_answered
  follows_store (access.Start k) a q =
      start_cases S k l a bs (record { table = λ e z. clash z refl; stops = λ e f z. clash z refl; again = λ e f z. clash z refl; gives_up = λ e f z. clash z refl })
  follows_store (access.Store k) a q = reports (store_marks l.marks a) change.Keep k.ending (met a k.seen) (is_undone a) _ part.Kept (cleared l.marks a)
  follows_store (access.Read r) a q = reads_store (after_read r a) (kept_part r a)
  follows_store (access.Write w) a q =
      write_cases S l t w a (record { verifies = λ e f z. clash z refl; done = λ e f. ends _ _ _ _; stops = λ e f. ends _ _ _ _; moves = λ e f. nexts t.nspares change.Keep w.block _ })
  follows_store (access.Verify w) a q = verify_cases S l w a q (record { stops = λ e. ends _ _ _ _; done = λ e f. ends _ _ _ _; fails = λ e f z. clash z refl })
  follows_store (access.TrialWrite r) a q = tried_cases S l t r a (record { done = λ e z. clash z refl; stops = λ e. stops r; fails = λ e f. misses r _ })
  follows_store (access.TrialRead r) a q =
      checked_cases S l t r a q
      (record { stops = λ e. stops r; counts = λ e. record { again = λ f z. clash z refl; passes = λ f g. passes (counted r a q); fails = λ f g. misses (counted r a q) _ } })

  answered_store : (p : Phase) (a : ℕ) (q : Bool) → S (answered p l t a bs q)
  unfolding answered
  answered_store phase.Idle a q = λ f. clash f refl
  answered_store (phase.Offered o) a q = λ f. clash f refl
  answered_store phase.Command a q = λ f. clash f refl
  answered_store phase.Data a q = λ f. clash f refl
  answered_store (phase.Awaiting x) a q =
      fitting_cases S (asks_read x) l a (length bs) (follows x l t a bs q) (record { answer = λ e f. clash f refl; bytes = λ e g f. clash f refl; fits = λ e g. follows_store x a q })

-- Of every record, whatever is lent and answered. A lower that acts on a command for a block does not finish it good: `needs_access`.
pub good_is_stored : (d : Drive) (u : List ℕ) (a : ℕ) (bs : List ℕ) → StoredIfGood (surface_of d u a bs)
unfolding surface_of
good_is_stored d u a bs =
    let l = d.state in
    guarded_cases (S l d.table d.causes bs u) (record_ok d) (length u) l _
    (record { damaged = λ e f. clash f refl; length = λ e g f. clash f refl; passes = λ e g. answered_store l d.table d.causes bs u l.phase a _ })
