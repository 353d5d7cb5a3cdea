-- STATUS 4 IS E: each answer counts as one of the R rereads or not at all, and sparing keeps the count.
use mathlib.Core.Path.{◌≡◌, refl, sym, ap, subst₂, ◌∙◌}
use mathlib.Core.Bool.{Bool, true, false, cond, not, ◌&&◌, ◌||◌}
use mathlib.Core.Logic.{◌⊎◌, inl, inr}
use mathlib.Core.List.{List, [], ◌∷◌}
use Prim.Native.Nat.{ℕ, zero, suc, ◌+◌, ◌-◌, ◌≤◌, ◌<◌}
use native.Mathlib.Omega.{arith}
use lib.Dec.{eqb, ltb, leb}
use lib.ListN.{take, get_or}
use borrow.Author.Tests.{eqb-true, ltb-true, ltb-false, leb-true}
use Rattle.geometry.specs.declared.Block.{Block}
use Rattle.logic.proofs.Bools.{clash, and_left}
use Rattle.table.specs.declared.Table.{Table}
use Rattle.drive.specs.declared.Cause.{Cause}
use Rattle.drive.specs.declared.Access.{Access}
use Rattle.drive.specs.declared.Access.TheVariants as access
use Rattle.drive.specs.declared.Answer.{Answer}
use Rattle.drive.specs.declared.Answer.TheVariants as answer
use Rattle.drive.specs.declared.Change.{Change}
use Rattle.drive.specs.declared.Drive.{Drive}
use Rattle.drive.specs.declared.Ending.{Ending}
use Rattle.drive.specs.declared.Ending.TheVariants as ending
use Rattle.drive.specs.declared.Outcome.TheVariants as outcome
use Rattle.drive.specs.declared.Part.{Part}
use Rattle.drive.specs.declared.Phase.{Phase}
use Rattle.drive.specs.declared.Phase.TheVariants as phase
use Rattle.drive.specs.declared.Retry.{Retry}
use Rattle.drive.specs.declared.Seen.{Seen}
use Rattle.drive.specs.declared.State.{State}
use Rattle.drive.specs.declared.Target.{Target}
use Rattle.drive.specs.declared.Trial.{Trial}
use Rattle.drive.specs.declared.Turn.{Turn}
use Rattle.drive.specs.Words.{status_of}
use Rattle.drive.specs.Results.{Out, finish, leave, status_left}
use Rattle.drive.specs.Retries.{passed, failed, after_read}
use Rattle.drive.specs.Sparing.{tried, counted as reread, checked}
use Rattle.drive.specs.Access.{store_answered, reads, write_answered, verify_answered, follows}
use Rattle.drive.specs.Bound.{of_command, is_command}
use Rattle.drive.specs.Over.{Reply, replied, command, Completes}
use Rattle.drive.specs.Status4.{failures, numbers, left_by, Status4}
use Rattle.drive.specs.Views.{of_answer}
use Rattle.records.proofs.Ladders.{finish_cases, NextSpare, Missed, Stopped, tried_cases, checked_cases, lost_cases, settled_cases, GoesOnReading, after_read_cases, write_cases, verify_cases}
use Rattle.demands.proofs.Endings.{latched_reports}
use Rattle.demands.proofs.Awaited.{of_phase, accepted}

-- Returns what is counted of n rereads once the first read is answered: nothing, if that is good.
abbrev pub after_first : ℕ → List ℕ → ℕ
after_first n [] = 0
after_first n (a ∷ ys) = cond (eqb a 0) 0 (failures (take n ys))

-- Returns E at the finish, given the answers that are still to come, the awaited one first.
abbrev pub counted : List ℕ → Access → ℕ
counted ys (access.Start k) = 0
counted ys (access.Store k) = k.seen.errors
counted ys (access.Read r) = r.seen.errors + cond r.first (after_first r.left ys) (failures (take r.left ys))
counted ys (access.Write w) = 0
counted ys (access.Verify w) = 0
counted ys (access.TrialWrite r) = r.seen.errors
counted ys (access.TrialRead r) = r.seen.errors

abbrev pub total : Phase → List ℕ → ℕ
total p ys = of_phase 0 (counted ys) p

-- Says what one answer does to a command: the call answers b and leaves the phase p and the bytes v. It is finished and idle, with E
-- in status 4, or awaits another access of it, with E as it is for what is still to come. F is E, given that.
abbrev pub Counts : (List ℕ → ℕ) → Answer → Phase → List ℕ → Type 0
Counts F b p v =
    ((b ≡ answer.Finished) × (p ≡ phase.Idle) × (get_or v 3 0 ≡ F []))
    ⊎ (((of_answer b).refused ≡ false) × ((of_answer b).finished ≡ false) × (is_command p ≡ true) × ((ys : List ℕ) → total p ys ≡ F ys))

-- A good answer uses up a reread, if one is left, and a failure is counted for it.
count_good : (n : ℕ) (xs : List ℕ) → failures (take n (0 ∷ xs)) ≡ failures (take (n - 1) xs)
count_good zero xs = let e : 0 - 1 ≡ 0 = omega arith in rw e
count_good (suc n) xs = let e : suc n - 1 ≡ n = omega arith in rw e

count_bad : (n a : ℕ) (xs : List ℕ) → (eqb a 1 || eqb a 2) ≡ true → 0 < n → failures (take n (a ∷ xs)) ≡ suc (failures (take (n - 1) xs))
count_bad zero a xs h p = absurd (omega arith)
count_bad (suc n) a xs h p = let e : suc n - 1 ≡ n = omega arith in rw (h, e)

one_or_two : (a : ℕ) → a ≤ 3 → eqb a 0 ≡ false → eqb a 3 ≡ false → (eqb a 1 || eqb a 2) ≡ true
one_or_two zero h p q = clash refl p
one_or_two (suc zero) h p q = refl
one_or_two (suc (suc zero)) h p q = refl
one_or_two (suc (suc (suc zero))) h p q = clash refl q
one_or_two (suc (suc (suc (suc a)))) h p q = absurd (omega arith)

none_failed : (n : ℕ) → failures (take n []) ≡ 0
none_failed zero = refl
none_failed (suc n) = refl

-- EACH RUNG keeps the count.
module _ (t : Table) (l : State) (bs u : List ℕ) (F : List ℕ → ℕ) where
  abbrev K : Turn → Type 0
  K x = Counts F x.answer x.state.phase (leave x.leaves t bs u)

  -- So does an ending, whatever becomes of the table, and whether it stores or not,
  ended : (c : Change) (e : Ending) (s : Seen) (p : Part) → ((ys : List ℕ) → s.errors ≡ F ys) → K (finish l c e s p)
  unfolding status_left status_of
  ended c e s p h = finish_cases K l c e s p (record { asks = λ q. inr (refl, refl, refl, h); reports = λ q. inl (refl, refl, h []) })

  stopped : (c : Change) (s : Seen) (p : Part) → s.errors ≡ F [] → K (finish l c ending.Latched s p)
  unfolding status_left status_of
  stopped c s p h = latched_reports K l c s p (λ u. inl (refl, refl, h))

  -- sparing,
  nexts : (n : ℕ) (c : Change) (b : Block) (s : Seen) → ((ys : List ℕ) → s.errors ≡ F ys) → {x y : Cause} → NextSpare K n l c b s x y
  nexts n c b s h = record { spare = λ e. inr (refl, refl, refl, h); no_spare = λ e. ended _ _ _ _ h }

  misses : (r : Trial) (s : Seen) → ((ys : List ℕ) → s.errors ≡ F ys) → {x : Cause} → Missed K l t r s x
  misses r s h = record { dead = λ e. nexts _ _ r.block s h; left = λ e. nexts _ _ r.block s h }

  stops : (r : Trial) → r.seen.errors ≡ F [] → Stopped K l r
  stops r h = record { dead = λ e. stopped _ _ _ h; present = λ e. stopped _ _ _ h }

  tries : (r : Trial) (a : ℕ) → ((ys : List ℕ) → r.seen.errors ≡ F ys) → K (tried l t r a)
  tries r a h = tried_cases K l t r a (record { done = λ e. inr (refl, refl, refl, h); stops = λ e. stops r (h []); fails = λ e f. misses r _ h })

  checks : (r : Trial) (a : ℕ) (equal : Bool) → ((ys : List ℕ) → r.seen.errors ≡ F ys) → K (checked l t r a equal)
  checks r a equal h =
      checked_cases K l t r a equal
      (record {
        stops = λ e. stops r (h []);
        counts = λ e. record {
          again = λ f. inr (refl, refl, refl, h);
          passes = λ f g. record { moved = λ i. ended _ _ _ _ h; listed = λ i j. ended _ _ _ _ h; stays = λ i j. ended _ _ _ _ h };
          fails = λ f g. misses (reread r a equal) _ h;
        };
      })

  -- a write command's write and its verify, which count none,
  writes : (w : Target) (a : ℕ) → ((ys : List ℕ) → 0 ≡ F ys) → K (write_answered l t w a)
  writes w a h =
      write_cases K l t w a
      (record { verifies = λ e f. inr (refl, refl, refl, h); done = λ e f. ended _ _ _ _ h; stops = λ e f. ended _ _ _ _ h; moves = λ e f. nexts _ _ w.block _ h })

  verifies : (w : Target) (a : ℕ) (equal : Bool) → ((ys : List ℕ) → 0 ≡ F ys) → K (verify_answered l w a equal)
  verifies w a equal h = verify_cases K l w a equal (record { stops = λ e. ended _ _ _ _ h; done = λ e f. ended _ _ _ _ h; fails = λ e f. inr (refl, refl, refl, h) })

  -- and a read that goes on, with the failures of the rereads that are left.
  module _ (q : Part) (r : Retry) (f : r.first ≡ false) (h : (ys : List ℕ) → r.seen.errors + failures (take r.left ys) ≡ F ys) where
    -- None is to come if no reread is left.
    spent : ltb 0 r.left ≡ false → (ys : List ℕ) → r.seen.errors ≡ F ys
    spent e ys = let z : r.left ≡ 0 = omega (arith, ltb-false 0 r.left e) in let y = rw z at (h ys) in omega arith

    again : K (reads (outcome.Again r) l t q)
    unfolding reads
    again = inr (refl, refl, refl, λ ys. rw f (h ys))

    goes_on : GoesOnReading (λ x. K (reads x l t q)) r
    unfolding reads
    goes_on =
        record {
          reread = λ e. again;
          settles = λ e g. settled_cases K l r q (record { below = λ b. ended _ _ _ _ (spent e); latched = λ b c. ended _ _ _ _ (spent e); tries = λ b c. inr (refl, refl, refl, spent e) });
          further = λ e g i. again;
          loses = λ e g i. lost_cases K l t r q (record { listed = λ b. ended _ _ _ _ (spent e); entered = λ b c. ended _ _ _ _ (spent e); full = λ b c. ended _ _ _ _ (spent e) });
        }

-- WHAT AN ANSWER TO A READ COUNTS

-- The first read's failure is not counted; another is one of the R rereads, or none of them is left.
bad_counted : (r : Retry) (a : ℕ) (xs : List ℕ) → eqb a 0 ≡ false → (eqb a 1 || eqb a 2) ≡ true → (failed r a).seen.errors + failures (take (failed r a).left xs) ≡ counted (a ∷ xs) (access.Read r)
unfolding failed
bad_counted r a xs z h = go r.first (ltb 0 r.left) refl
  where
    go : (f q : Bool) → ltb 0 r.left ≡ q
        → cond (not f && q) (r.seen.errors + 1) r.seen.errors + failures (take (cond (not f && q) (r.left - 1) r.left) xs) ≡ r.seen.errors + cond f (cond (eqb a 0) 0 (failures (take r.left xs))) (failures (take r.left (a ∷ xs)))
    go true q e = rw z
    go false true e = rw (count_bad r.left a xs h (ltb-true 0 r.left e)) (omega arith)
    go false false e = let y : r.left ≡ 0 = omega (arith, ltb-false 0 r.left e) in rw y

good_counted : (r : Retry) (a : ℕ) (xs : List ℕ) → eqb a 0 ≡ true → r.first ≡ false → r.seen.errors + failures (take (r.left - 1) xs) ≡ counted (a ∷ xs) (access.Read r)
good_counted r a xs e f = rw (f, eqb-true a 0 e, count_good r.left xs)

-- A first read that is good leaves no reread to count.
done_counted : (r : Retry) (a : ℕ) (xs : List ℕ) → eqb a 0 ≡ true → r.first ≡ true → r.seen.errors ≡ counted (a ∷ xs) (access.Read r)
done_counted r a xs e f = rw (f, e) (omega arith)

either : (q : Bool) → ◌≡◌ {A = ℕ} (cond q 0 0) 0
either true = refl
either false = refl

-- An answer that stops the command is no failure of a reread.
at_end : (r : Retry) (a : ℕ) → (eqb a 1 || eqb a 2) ≡ false → r.seen.errors ≡ counted (a ∷ []) (access.Read r)
at_end r a h = go r.first r.left
  where
    go : (f : Bool) (n : ℕ) → r.seen.errors ≡ r.seen.errors + cond f (cond (eqb a 0) 0 (failures (take n []))) (failures (take n (a ∷ [])))
    go true n = rw (none_failed n, either (eqb a 0)) (omega arith)
    go false zero = omega arith
    go false (suc n) = rw (h, none_failed n) (omega arith)

module _ (t : Table) (l : State) (bs u : List ℕ) (a : ℕ) where
  -- Says that a turn counts the answer a to an access.
  abbrev After : Access → Turn → Type 0
  After x y = K t l bs u (λ ys. counted (a ∷ ys) x) y

  reads_on : (r : Retry) (q : Part) → a ≤ 3 → After (access.Read r) (reads (after_read r a) l t q)
  unfolding reads failed
  reads_on r q small =
      after_read_cases (λ x. After (access.Read r) (reads x l t q)) r a
      (record {
        done = λ e f. ended t l bs u F _ _ _ _ (λ ys. done_counted r a ys e f);
        passes = λ e f. goes_on t l bs u F q (passed r) f (λ ys. good_counted r a ys e f);
        stops = λ e f. stopped t l bs u F _ _ _ (at_end r a (rw (eqb-true a 3 f)));
        fails = λ e f. goes_on t l bs u F q (failed r a) refl (λ ys. bad_counted r a ys e (one_or_two a small e f));
      })
    where
      F : List ℕ → ℕ
      F ys = counted (a ∷ ys) (access.Read r)

  -- EVERY ANSWER to an access of a command is counted.
  counts : (x : Access) → of_command x ≡ true → a ≤ 3 → (equal : Bool) → After x (follows x l t a bs equal)
  unfolding follows store_answered status_left status_of
  counts (access.Start k) c h equal = clash c refl
  counts (access.Store k) c h equal = inl (refl, refl, refl)
  counts (access.Read r) c h equal = reads_on r _ h
  counts (access.Write w) c h equal = writes t l bs u _ w a (λ ys. refl)
  counts (access.Verify w) c h equal = verifies t l bs u _ w a equal (λ ys. refl)
  counts (access.TrialWrite r) c h equal = tries t l bs u _ r a (λ ys. refl)
  counts (access.TrialRead r) c h equal = checks t l bs u _ r a equal (λ ys. refl)

-- Says that a reply to what a phase awaits is counted.
abbrev pub Owes : Reply → Phase → Out → Type 0
Owes x p y = Counts (λ ys. total p (x.number ∷ ys)) y.step.answer y.step.drive.state.phase y.bytes

pub step_counts : (d : Drive) (u : List ℕ) (x : Reply) → is_command d.state.phase ≡ true → (of_answer (replied d u x).step.answer).refused ≡ false → Owes x d.state.phase (replied d u x)
step_counts d u x c r =
    let w = accepted d u x.number x.bytes r in
    let small = leb-true x.number 3 (and_left (leb x.number 3) _ w.answer) in
    subst₂ (Owes x) (sym w.phase) (sym w.gives) (counts d.table d.state x.bytes u x.number w.access (sym (ap is_command w.phase) ∙ c) small _)

-- THE WHOLE COMMAND
walk : (xs : List Reply) (d : Drive) (u : List ℕ) → is_command d.state.phase ≡ true → Completes command d u xs → get_or (left_by d u xs) 3 0 ≡ total d.state.phase (numbers xs)
walk [] d u c k = absurd k
walk (x ∷ []) d u c k = last (step_counts d u x c (ap (λ (a : Answer). (of_answer a).refused) k.answer))
  where
    last : Owes x d.state.phase (replied d u x) → get_or (replied d u x).bytes 3 0 ≡ total d.state.phase (x.number ∷ [])
    last (inl z) = z.2
    last (inr z) = clash z.2 (ap is_command k.phase)
walk (x ∷ y ∷ ys) d u c k =
    walk (y ∷ ys) (replied d u x).step.drive (replied d u x).bytes k.0.awaited k.1 ∙ goes (step_counts d u x c k.0.accepted)
  where
    goes : Owes x d.state.phase (replied d u x)
        → total (replied d u x).step.drive.state.phase (numbers (y ∷ ys)) ≡ total d.state.phase (x.number ∷ numbers (y ∷ ys))
    goes (inl z) = clash k.0.awaited (ap is_command z.1)
    goes (inr z) = z.3 (numbers (y ∷ ys))

pub status_4 : Status4
status_4 d u r x xs w k =
    walk (x ∷ xs) d u (ap is_command w.phase) k ∙ (ap (λ (p : Phase). total p (x.number ∷ numbers xs)) w.phase ∙ rw (w.first, w.clean) (omega arith))
