-- DEMAND 1's bound: what a command may still cost falls with each access, and is at most 3,680.
use mathlib.Core.Path.{◌≡◌, refl, sym, subst, subst₂, ap}
use mathlib.Core.Bool.{Bool, true, false, cond, not, ◌&&◌, ◌||◌}
use mathlib.Core.List.{List, [], ◌∷◌}
use Prim.Native.Nat.{ℕ, suc, ◌+◌, ◌-◌, ◌*◌, ◌≤◌, ◌<◌}
use native.Mathlib.Omega.{arith}
use lib.Dec.{eqb, ltb, leb}
use borrow.Author.Tests.{ltb-true, lt-ltb}
use Rattle.geometry.specs.declared.Block.{Block}
use Rattle.logic.proofs.Bools.{clash, and_right}
use Rattle.table.specs.declared.Table.{Table}
use Rattle.drive.specs.declared.Cause.{Cause}
use Rattle.drive.specs.declared.Access.{Access}
use Rattle.drive.specs.declared.Access.TheVariants as access
use Rattle.drive.specs.declared.Change.{Change}
use Rattle.drive.specs.declared.Change.TheVariants as change
use Rattle.drive.specs.declared.Drive.{Drive}
use Rattle.drive.specs.declared.Ending.{Ending}
use Rattle.drive.specs.declared.Outcome.{Outcome}
use Rattle.drive.specs.declared.Part.{Part}
use Rattle.drive.specs.declared.Phase.{Phase}
use Rattle.drive.specs.declared.Phase.TheVariants as phase
use Rattle.drive.specs.declared.Retry.{Retry}
use Rattle.drive.specs.declared.Seen.{Seen}
use Rattle.drive.specs.declared.State.{State}
use Rattle.drive.specs.declared.Trial.{Trial}
use Rattle.drive.specs.declared.Turn.{Turn}
use Rattle.drive.specs.Records.{retry_ok, trial_ok, access_ok, phase_ok, state_ok, record_ok}
use Rattle.drive.specs.Results.{Out, changed, finish}
use Rattle.drive.specs.Retries.{passed, failed, after_read}
use Rattle.drive.specs.Sparing.{tried, counted, checked}
use Rattle.drive.specs.Access.{store_answered, reads, follows}
use Rattle.drive.specs.Calls.{Call, surface_of, step_of}
use Rattle.drive.specs.Bound.{of_command, is_command, accesses, most, Demand1Bound}
use Rattle.drive.specs.Views.{of_answer}
use Rattle.records.proofs.Ladders.{finish_cases, NextSpare, Missed, Stopped, tried_cases, checked_cases, lost_cases, settled_cases, GoesOnReading, after_read_cases, write_cases, verify_cases}
use Rattle.records.proofs.Passed.{passed as parts}
use Rattle.demands.proofs.Awaited.{of_phase, accepted, by_surface}
use Rattle.demands.proofs.Busy.{killed_count}
use Rattle.demands.proofs.Refusals.{refused_unchanged}
use Rattle.demands.proofs.Valid.{RetryFacts, retry_facts, TrialFacts, trial_facts, on_spare_lem}

-- Returns how many reads a read command may still ask for, the awaited one included.
abbrev reading : Bool → ℕ → ℕ → ℕ
reading first left spent = cond first (1 + left + 90) (cond (ltb 0 left) (left + 90) (90 - spent))

abbrev reads_left : Retry → ℕ
reads_left r = reading r.first r.left r.spent

-- A failure lowers them.
fail_falls : (p : Bool) (left spent c : ℕ) → spent ≤ 89 → 0 < c → reading false (cond (not p && ltb 0 left) (left - 1) left) (cond (p || ltb 0 left) spent (spent + c)) < reading p left spent
fail_falls p left spent c h pos = go p (ltb 0 left) refl
  where
    low : (x : ℕ) (q : Bool) → ltb 0 x ≡ q → cond q (x + 90) (90 - spent) ≤ x + 90
    low x true e = omega arith
    low x false e = omega arith

    go : (p q : Bool) → ltb 0 left ≡ q → reading false (cond (not p && q) (left - 1) left) (cond (p || q) spent (spent + c)) < cond p (1 + left + 90) (cond q (left + 90) (90 - spent))
    go true q e = omega (arith, low left (ltb 0 left) refl)
    go false true e = let z = ltb-true 0 left e in omega (arith, low (left - 1) (ltb 0 (left - 1)) refl)
    go false false e = rw e (omega arith)

-- So does a good reread.
pass_falls : (left spent : ℕ) → ltb 0 (left - 1) ≡ true → reading false (left - 1) spent < reading false left spent
pass_falls left spent e =
    let z = ltb-true 0 (left - 1) e in
    let q : ltb 0 left ≡ true = lt-ltb 0 left (omega arith) in
    rw (e, q) (omega arith)

some_left : (p : Bool) (left spent : ℕ) → spent ≤ 89 → 0 < reading p left spent
some_left p left spent h = go p (ltb 0 left)
  where
    go : (p q : Bool) → 0 < cond p (1 + left + 90) (cond q (left + 90) (90 - spent))
    go true q = omega arith
    go false true = omega arith
    go false false = omega arith

-- Returns how many rereads a trial may still ask for, the awaited one included.
abbrev rereads_left : Trial → ℕ
rereads_left r = 99 - r.rereads + 1

-- Returns what the trials of the unused spares cost, with n listed: each a write and a hundred rereads.
abbrev spares_left : ℕ → ℕ
spares_left n = 101 * (32 - n)

-- Returns what those cost that are unused after the sector under trial.
abbrev tries_left : ℕ → Trial → ℕ
tries_left n r = spares_left (cond r.spare (n + 1) n)

-- Returns how many accesses a command may still ask for, the awaited one and the store included, with n spares listed.
abbrev owed : ℕ → Access → ℕ
owed n (access.Start k) = 0
owed n (access.Store k) = 1
owed n (access.Read r) = reads_left r + 101 + spares_left n + 1
owed n (access.Write w) = 2 + 101 + spares_left n + 1
owed n (access.Verify w) = 1 + 101 + spares_left n + 1
owed n (access.TrialWrite r) = 101 + tries_left n r + 1
owed n (access.TrialRead r) = rereads_left r + tries_left n r + 1

abbrev cost : ℕ → Phase → ℕ
cost n p = of_phase 0 (owed n) p

-- EACH RUNG lowers it: what the command may still cost is less than the k before.
module _ (t : Table) (l : State) (bs : List ℕ) (k : ℕ) (pos : 1 < k) where
  abbrev Falls : Turn → Type 0
  Falls x = cost (changed x.change t bs).nspares x.state.phase < k

  -- A command that ends asks for its store at most.
  ends : (c : Change) (e : Ending) (s : Seen) (p : Part) → Falls (finish l c e s p)
  ends c e s p = finish_cases Falls l c e s p (record { asks = λ q. pos; reports = λ q. omega (arith, pos) })

  nexts : (n : ℕ) (c : Change) (b : Block) (s : Seen) → (changed c t bs).nspares ≡ n → spares_left n + 1 < k → {x y : Cause} → NextSpare Falls n l c b s x y
  nexts n c b s e h = record { spare = λ q. let p = ltb-true n 32 q in omega (arith, p, e, h); no_spare = λ q. ends c _ _ _ }

  module _ (r : Trial) (room : r.spare ≡ true → t.nspares < 32) (low : tries_left t.nspares r + 1 < k) where
    misses : (s : Seen) {x : Cause} → Missed Falls l t r s x
    misses s =
        record {
          dead = λ e. let n = room e in let g = rw e at low in nexts (t.nspares + 1) (change.Kill _) r.block s (killed_count t n) g;
          left = λ e. let g = rw e at low in nexts t.nspares change.Keep r.block s refl g;
        }

    stops : Stopped Falls l r
    stops = record { dead = λ e. ends _ _ _ _; present = λ e. ends _ _ _ _ }

  module _ (r : Trial) (w : TrialFacts t.nspares r) where
    room : r.spare ≡ true → t.nspares < 32
    room = on_spare_lem t.nspares r w

    -- A trial's write leaves its rereads, and a reread fewer of them, or either ends the trial.
    tries : 101 + tries_left t.nspares r + 1 ≤ k → (a : ℕ) → Falls (tried l t r a)
    tries top a =
        let low : tries_left t.nspares r + 1 < k = omega (arith, top) in
        tried_cases Falls l t r a (record { done = λ e. omega (arith, top); stops = λ e. stops r room low; fails = λ e f. misses r room low _ })

    checks : rereads_left r + tries_left t.nspares r + 1 ≤ k → (a : ℕ) (equal : Bool) → Falls (checked l t r a equal)
    checks top a equal =
        let x : Trial = counted r a equal in
        let low : tries_left t.nspares r + 1 < k = omega (arith, top) in
        checked_cases Falls l t r a equal
        (record {
          stops = λ e. stops r room low;
          counts = λ e. record {
            again = λ f. omega (arith, top, ltb-true x.rereads 100 f);
            passes = λ f g. record { moved = λ i. ends _ _ _ _; listed = λ i j. ends _ _ _ _; stays = λ i j. ends _ _ _ _ };
            fails = λ f g. misses x room low _;
          };
        })

  -- A read leaves fewer reads, or begins the trial of its sector in place of them.
  module _ (p : Part) (r : Retry) (w : RetryFacts r) (top : reads_left r + 101 + spares_left t.nspares + 1 ≤ k) where
    abbrev Fo : Outcome → Type 0
    Fo x = Falls (reads x l t p)

    begins : 101 + spares_left t.nspares + 1 < k
    begins = omega (arith, top, some_left r.first r.left r.spent w.spent)

    goes_on : (x : Retry) → (ltb 0 x.left ≡ true → reads_left x < reads_left r) → (x.good ≡ false → reads_left x < reads_left r) → GoesOnReading Fo x
    unfolding reads
    goes_on x f g =
        record {
          reread = λ e. let z = f e in omega (arith, z, top);
          settles = λ e i. settled_cases Falls l x p (record { below = λ b. ends _ _ _ p; latched = λ b c. ends _ _ _ p; tries = λ b c. begins });
          further = λ e i j. let z = g i in omega (arith, z, top);
          loses = λ e i j. lost_cases Falls l t x p (record { listed = λ b. ends _ _ _ p; entered = λ b c. ends _ _ _ p; full = λ b c. ends _ _ _ p });
        }

    reads_on : (a : ℕ) → Fo (after_read r a)
    unfolding reads failed
    reads_on a =
        after_read_cases Fo r a
        (record {
          done = λ e f. ends _ _ _ p;
          passes = λ e f. goes_on (passed r) (λ q. rw f (pass_falls r.left r.spent q)) (λ g. clash refl g);
          stops = λ e f. ends _ _ _ p;
          fails = λ e f. let z = fail_falls r.first r.left r.spent (cond (eqb a 1) 1 9) w.spent (costs (eqb a 1)) in goes_on (failed r a) (λ q. z) (λ g. z);
        })
      where
        costs : (q : Bool) → ◌<◌ 0 (cond q 1 9)
        costs true = omega arith
        costs false = omega arith

-- EACH ANSWER to an access of a command lowers it.
module _ (t : Table) (l : State) (a : ℕ) (bs : List ℕ) (known : Bool) where
  lowered : (x : Access) → of_command x ≡ true → access_ok t.nspares known x ≡ true → (equal : Bool)
      → cost (changed (follows x l t a bs equal).change t bs).nspares (follows x l t a bs equal).state.phase < owed t.nspares x
  unfolding follows store_answered
  lowered (access.Start k) c h equal = clash c refl
  lowered (access.Store k) c h equal = omega arith
  lowered (access.Read r) c h equal = reads_on t l bs _ (omega arith) _ r (retry_facts r (and_right known (retry_ok r) h)) (omega arith) a
  lowered (access.Write w) c h equal =
      write_cases (Falls t l bs (owed t.nspares (access.Write w)) (omega arith)) l t w a
      (record { verifies = λ e f. omega arith; done = λ e f. ends t l bs _ (omega arith) _ _ _ _; stops = λ e f. ends t l bs _ (omega arith) _ _ _ _; moves = λ e f. nexts t l bs _ (omega arith) t.nspares change.Keep w.block _ refl (omega arith) })
  lowered (access.Verify w) c h equal =
      verify_cases (Falls t l bs (owed t.nspares (access.Verify w)) (omega arith)) l w a equal (record { stops = λ e. ends t l bs _ (omega arith) _ _ _ _; done = λ e f. ends t l bs _ (omega arith) _ _ _ _; fails = λ e f. omega arith })
  lowered (access.TrialWrite r) c h equal = tries t l bs _ (omega arith) r (trial_facts t.nspares r (and_right known (trial_ok t.nspares r) h)) (omega arith) a
  lowered (access.TrialRead r) c h equal = checks t l bs _ (omega arith) r (trial_facts t.nspares r (and_right known (trial_ok t.nspares r) h)) (omega arith) a equal

-- Returns the cost of a record.
abbrev cost_of : Drive → ℕ
cost_of d = cost d.table.nspares d.state.phase

pub phase_of_lem : (d : Drive) → record_ok d ≡ true → phase_ok d.table.nspares d.state.marks.known d.state.phase ≡ true
unfolding state_ok
phase_of_lem d h =
    and_right (leb d.state.count 6 && leb d.state.fed 533) (phase_ok d.table.nspares d.state.marks.known d.state.phase) (parts d h).state

-- AN ACCEPTED CALL while a command is under way lowers it.
module _ (d : Drive) (u : List ℕ) (cm : is_command d.state.phase ≡ true) where
  surfaces : (a : ℕ) (bs : List ℕ) → (of_answer (surface_of d u a bs).step.answer).refused ≡ false → cost_of (surface_of d u a bs).step.drive < cost_of d
  surfaces a bs r =
      let w = accepted d u a bs r in
      let ok = subst (λ (p : Phase). phase_ok d.table.nspares d.state.marks.known p ≡ true) w.phase (phase_of_lem d w.valid) in
      let c = subst (λ (p : Phase). is_command p ≡ true) w.phase cm in
      subst₂ (λ (y : Out) (p : Phase). cost_of y.step.drive < cost d.table.nspares p) (sym w.gives) (sym w.phase) (lowered d.table d.state a bs d.state.marks.known w.access c ok _)

  lowers : (c : Call) → (of_answer (step_of c d u).step.answer).refused ≡ false → cost_of (step_of c d u).step.drive < cost_of d
  unfolding step_of
  lowers =
      by_surface d u of_command cm (λ c. (of_answer (step_of c d u).step.answer).refused ≡ false → cost_of (step_of c d u).step.drive < cost_of d)
      (λ c r z. clash r z) surfaces

-- THE COST IS NEVER EXCEEDED.
within : (cs : List Call) (d : Drive) (u : List ℕ) → accesses d u cs ≤ cost_of d
unfolding accesses
within [] d u = omega arith
within (c ∷ cs) d u =
    let x = step_of c d u in
    go (is_command d.state.phase) refl (of_answer x.step.answer).refused refl (within cs x.step.drive x.bytes)
  where
    go : (p : Bool) → is_command d.state.phase ≡ p → (q : Bool) → (of_answer (step_of c d u).step.answer).refused ≡ q → accesses (step_of c d u).step.drive (step_of c d u).bytes cs ≤ cost_of (step_of c d u).step.drive
        → cond p (cond q (accesses (step_of c d u).step.drive (step_of c d u).bytes cs) (suc (accesses (step_of c d u).step.drive (step_of c d u).bytes cs))) 0 ≤ cost_of d
    go true e true r ih = let same = ap cost_of (refused_unchanged d u c r).0 in omega (arith, same, ih)
    go true e false r ih = omega (arith, lowers d u e c r, ih)
    go false e q r ih = omega arith

-- AND IT IS AT MOST 3,680.
at_most : (n : ℕ) (known : Bool) (x : Access) → access_ok n known x ≡ true → owed n x ≤ most
at_most n known (access.Start k) h = omega arith
at_most n known (access.Store k) h = omega arith
at_most n known (access.Read r) h =
    let w = retry_facts r (and_right known (retry_ok r) h) in
    omega (arith, w.sum, few r.first (ltb 0 r.left))
  where
    few : (p q : Bool) → cond p (1 + r.left + 90) (cond q (r.left + 90) (90 - r.spent)) ≤ 1 + r.left + 90
    few true q = omega arith
    few false true = omega arith
    few false false = omega arith
at_most n known (access.Write w) h = omega arith
at_most n known (access.Verify w) h = omega arith
at_most n known (access.TrialWrite r) h = omega arith
at_most n known (access.TrialRead r) h = omega arith

in_phase_lem : (n : ℕ) (known : Bool) (p : Phase) → phase_ok n known p ≡ true → cost n p ≤ most
in_phase_lem n known phase.Idle h = omega arith
in_phase_lem n known (phase.Offered o) h = omega arith
in_phase_lem n known phase.Command h = omega arith
in_phase_lem n known phase.Data h = omega arith
in_phase_lem n known (phase.Awaiting x) h = at_most n known x h

-- DEMAND 1
pub demand_1 : Demand1Bound
demand_1 d u cs h = omega (arith, within cs d u, in_phase_lem d.table.nspares d.state.marks.known d.state.phase (phase_of_lem d h))
