-- A COMMAND IS OVER BY FINISHED, after at most 3,680 answers that suit; a start after at most ten; a store after one.
use mathlib.Core.Path.{◌≡◌, refl, sym, ap, subst, ◌∙◌}
use mathlib.Core.Bool.{Bool, true, false, not, ◌&&◌}
use mathlib.Core.Logic.{◌⊎◌, inl, inr}
use mathlib.Core.List.{List, [], ◌∷◌}
use Prim.Native.Nat.{ℕ, zero, suc, ◌+◌, ◌-◌, ◌≤◌, ◌<◌}
use native.Mathlib.Omega.{arith}
use lib.ListN.{length, take, replicate}
use borrow.Author.Tests.{eq-eqb, ltb-true}
use Rattle.geometry.specs.Geometry.{table_sector}
use Rattle.logic.proofs.Bools.{clash}
use Rattle.table.specs.declared.Table.{Table}
use Rattle.drive.specs.declared.Access.{Access}
use Rattle.drive.specs.declared.Access.TheVariants as access
use Rattle.drive.specs.declared.Answer.{Answer}
use Rattle.drive.specs.declared.Answer.TheVariants as answer
use Rattle.drive.specs.declared.Drive.{Drive}
use Rattle.drive.specs.declared.Phase.{Phase}
use Rattle.drive.specs.declared.Phase.TheVariants as phase
use Rattle.drive.specs.declared.State.{State}
use Rattle.drive.specs.declared.Turn.{Turn}
use Rattle.drive.specs.Records.{record_ok, awaits}
use Rattle.drive.specs.Results.{Out, out_of}
use Rattle.drive.specs.Access.{answer_fits, bytes_fit, asks_read, fitting, start_answered, store_answered, follows, answered}
use Rattle.drive.specs.Calls.{Call, surface, surface_of, step_of, started, start_of}
use Rattle.drive.specs.Bound.{of_command, is_command, accesses, most}
use Rattle.drive.specs.Over.{Reply, replied, suits, of_start, of_store, Task, command, start, store, Ends, GoesOn, Completes, AllSuit, SuitsExactly, OverByFinished, Demand1Over, StartOver, StoreOver}
use Rattle.drive.specs.Views.{of_answer}
use Rattle.records.proofs.Ladders.{fitting_cases, start_cases}
use Rattle.records.proofs.Shapes.{follows_shape}
use Rattle.demands.proofs.Awaited.{awaited, followed, accepted, by_surface}
use Rattle.demands.proofs.Refusals.{refused_unchanged}
use Rattle.demands.proofs.Valid.{Fine, fine_of, fine_ok, surface_fine, started_fine}
use Rattle.demands.proofs.Lengths.{step_length}
use Rattle.demands.proofs.Demand1.{demand_1}
use Rattle.demands.proofs.Status4.{Owes, step_counts}

-- WHAT FOLLOWS AN ACCESS

-- Says that the k-th read of a start ends it, or is followed by the next of ten.
abbrev NextRead : ℕ → Turn → Type 0
NextRead k x =
    ((x.answer ≡ answer.Wait) × (x.state.phase ≡ phase.Idle))
    ⊎ ((k < 10) × (x.answer ≡ answer.Read table_sector) × (x.state.phase ≡ phase.Awaiting (access.Start (k + 1))))

module _ (l : State) (t : Table) (a : ℕ) (bs : List ℕ) (equal : Bool) where
  start_next : (k : ℕ) → NextRead k (start_answered k l a bs)
  start_next k =
      start_cases (NextRead k) k l a bs
      (record { table = λ e. inl (refl, refl); stops = λ e f. inl (refl, refl); again = λ e f. inr (ltb-true k 10 f, refl, refl); gives_up = λ e f. inl (refl, refl) })

  store_next : (x : Access) (cs u : List ℕ) → of_store x ≡ true → Ends store (out_of t cs bs u (follows x l t a bs equal))
  unfolding follows store_answered
  store_next (access.Start k) cs u c = clash c refl
  store_next (access.Store k) cs u c = record { answer = refl; phase = refl }
  store_next (access.Read r) cs u c = clash c refl
  store_next (access.Write w) cs u c = clash c refl
  store_next (access.Verify w) cs u c = clash c refl
  store_next (access.TrialWrite r) cs u c = clash c refl
  store_next (access.TrialRead r) cs u c = clash c refl

  -- No access is followed by a refusal.
  not_refused : (x : Access) → (of_answer (follows x l t a bs equal).answer).refused ≡ false
  not_refused x =
      follows_shape (λ (y : Turn). (of_answer y.answer).refused ≡ false) l (record { reports = λ m c e s v w p k. refl; asks = λ m c e s p k. refl; tries = λ c r p k. refl; says = λ k b p n w. n }) t x a bs equal (λ e. refl)

-- THE CODES 4 AND 5 refuse exactly what does not suit.
exactly : (x : Turn) (l : State) (read : Bool) (a n : ℕ) → (of_answer x.answer).refused ≡ false
    → (of_answer (fitting read l a n x).answer).refused ≡ not (answer_fits read a && bytes_fit read a n)
exactly x l read a n h =
    fitting_cases (λ (y : Turn). (of_answer y.answer).refused ≡ not (answer_fits read a && bytes_fit read a n)) read l a n x
    (record { answer = λ e. rw e; bytes = λ e f. rw (e, f); fits = λ e f. rw (e, f) h })

answered_exactly : (p : Phase) (l : State) (t : Table) (x : Reply) (equal : Bool) → (of_answer (answered p l t x.number x.bytes equal).answer).refused ≡ not (suits p x)
unfolding answered
answered_exactly phase.Idle l t x equal = refl
answered_exactly (phase.Offered o) l t x equal = refl
answered_exactly phase.Command l t x equal = refl
answered_exactly phase.Data l t x equal = refl
answered_exactly (phase.Awaiting y) l t x equal = exactly _ l (asks_read y) x.number (length x.bytes) (not_refused l t x.number x.bytes equal y)

pub suits_exactly : SuitsExactly
unfolding surface_of
suits_exactly d u x k h = rw (k, eq-eqb (length u) 536 h) (answered_exactly d.state.phase d.state d.table x _)

-- An answer that suits is accepted.
pub suited : (d : Drive) (u : List ℕ) (x : Reply) → record_ok d ≡ true → length u ≡ 536 → suits d.state.phase x ≡ true → (of_answer (replied d u x).step.answer).refused ≡ false
suited d u x k h s = suits_exactly d u x k h ∙ ap not s

-- ONE ANSWER THAT IS ACCEPTED ends the command, or leaves it under way.
abbrev Steps : Out → Type 0
Steps y = Ends command y ⊎ (GoesOn command y × ((of_answer y.step.answer).finished ≡ false))

command_step : (d : Drive) (u : List ℕ) (x : Reply) → is_command d.state.phase ≡ true → (of_answer (replied d u x).step.answer).refused ≡ false → Steps (replied d u x)
command_step d u x c r = go (step_counts d u x c r)
  where
    go : Owes x d.state.phase (replied d u x) → Steps (replied d u x)
    go (inl z) = inl (record { answer = z.0; phase = z.1 })
    go (inr z) = inr (record { accepted = z.0; awaited = z.2 }, z.1)

-- OVER BY FINISHED AND BY NOTHING ELSE: a refused call leaves the command under way, and only a surface call is accepted.
abbrev ByFinished : Out → Type 0
ByFinished y = is_command y.step.drive.state.phase ≡ not (of_answer y.step.answer).finished

not_finished : (a : Answer) → (of_answer a).refused ≡ true → (of_answer a).finished ≡ false
not_finished answer.Wait e = refl
not_finished (answer.Offer o) e = refl
not_finished (answer.Read s) e = refl
not_finished (answer.Write s) e = refl
not_finished answer.Store e = refl
not_finished answer.Finished e = clash e refl
not_finished (answer.Refused r) e = refl

module _ (d : Drive) (u : List ℕ) (c : is_command d.state.phase ≡ true) where
  if_refused : (x : Call) → (of_answer (step_of x d u).step.answer).refused ≡ true → ByFinished (step_of x d u)
  if_refused x e =
      ap (λ (y : Drive). is_command y.state.phase) (refused_unchanged d u x e).0 ∙ (c ∙ sym (ap not (not_finished (step_of x d u).step.answer e)))

  if_accepted : (x : Reply) → (of_answer (replied d u x).step.answer).refused ≡ false → ByFinished (replied d u x)
  if_accepted x e = go (command_step d u x c e)
    where
      go : Steps (replied d u x) → ByFinished (replied d u x)
      go (inl z) = rw (z.answer, z.phase)
      go (inr z) = z.0.awaited ∙ sym (ap not z.1)

  by_reply : (a : ℕ) (bs : List ℕ) → ByFinished (step_of (surface a bs) d u)
  unfolding step_of
  by_reply a bs = go (of_answer (surface_of d u a bs).step.answer).refused refl
    where
      go : (q : Bool) → (of_answer (surface_of d u a bs).step.answer).refused ≡ q → ByFinished (surface_of d u a bs)
      go true e = if_refused (surface a bs) e
      go false e = if_accepted (record { number = a; bytes = bs }) e

pub over_by_finished : OverByFinished
over_by_finished x d u c = by_surface d u of_command c (λ y. ByFinished (step_of y d u)) (if_refused d u c) (by_reply d u c) x

-- The next record is fine again, and the next buffer as long.
reply_fine : (d : Drive) (u : List ℕ) (x : Reply) → Fine d.table d.causes d.state → Fine (replied d u x).step.drive.table (replied d u x).step.drive.causes (replied d u x).step.drive.state
reply_fine d u x f = surface_fine d u x.number x.bytes f

reply_long : (d : Drive) (u : List ℕ) (x : Reply) → length u ≡ 536 → length (replied d u x).bytes ≡ 536
unfolding step_of
reply_long d u x h = step_length d u (surface x.number x.bytes) ∙ h

-- One answer that leaves the task under way, and then those that complete it, complete it.
goes_then : (k : Task) (d : Drive) (u : List ℕ) (x : Reply) (ys : List Reply) → GoesOn k (replied d u x) → Completes k (replied d u x).step.drive (replied d u x).bytes ys → Completes k d u (x ∷ ys)
goes_then k d u x [] g c = absurd c
goes_then k d u x (y ∷ ys) g c = (g, c)

-- THE FIRST m ANSWERS COMPLETE A COMMAND, or with one more they are m + 1 accesses of it. The one more is a timeout, which suits.
abbrev pub timeout : Reply
timeout = record { number = 2; bytes = [] }

abbrev and_one_more : List Reply → List Call
and_one_more [] = surface 2 [] ∷ []
and_one_more (x ∷ xs) = surface x.number x.bytes ∷ and_one_more xs

timeout_suits : (p : Phase) → is_command p ≡ true → suits p timeout ≡ true
timeout_suits = awaited (λ p. suits p timeout ≡ true) of_command (λ y c. both (asks_read y))
  where
    both : (read : Bool) → (answer_fits read 2 && bytes_fit read 2 0) ≡ true
    both true = refl
    both false = refl

counted : (d : Drive) (u : List ℕ) (x : Reply) (cs : List Call) → is_command d.state.phase ≡ true → (of_answer (replied d u x).step.answer).refused ≡ false
    → accesses d u (surface x.number x.bytes ∷ cs) ≡ suc (accesses (replied d u x).step.drive (replied d u x).bytes cs)
unfolding accesses step_of
counted d u x cs c r = rw (c, r)

abbrev Over : ℕ → Drive → List ℕ → List Reply → Type 0
Over m d u xs = (n : ℕ) × (n ≤ m) × Completes command d u (take n xs)

abbrev Either : ℕ → Drive → List ℕ → List Reply → Type 0
Either m d u xs = Over m d u xs ⊎ (m < accesses d u (and_one_more (take m xs)))

walk : (m : ℕ) (xs : List Reply) (d : Drive) (u : List ℕ) → Fine d.table d.causes d.state → length u ≡ 536 → is_command d.state.phase ≡ true → m ≤ length xs → AllSuit command d u xs → Either m d u xs
walk zero xs d u f h c le s = inr (omega (arith, counted d u timeout [] c (suited d u timeout (fine_ok d f) h (timeout_suits d.state.phase c))))
walk (suc m) [] d u f h c le s = absurd (omega arith)
walk (suc m) (x ∷ xs) d u f h c le s =
    go (command_step d u x c (suited d u x (fine_ok d f) h (s.0 c))) (λ g. walk m xs (replied d u x).step.drive (replied d u x).bytes (reply_fine d u x f) (reply_long d u x h) g.awaited (omega arith) s.1)
  where
    d' : Drive
    d' = (replied d u x).step.drive

    u' : List ℕ
    u' = (replied d u x).bytes

    later : GoesOn command (replied d u x) → Either m d' u' xs → Either (suc m) d u (x ∷ xs)
    later g (inl o) = inl (suc o.0, omega (arith, o.1), goes_then command d u x (take o.0 xs) g o.2)
    later g (inr n) = inr (omega (arith, n, counted d u x (and_one_more (take m xs)) c g.accepted))

    go : Steps (replied d u x) → (GoesOn command (replied d u x) → Either m d' u' xs) → Either (suc m) d u (x ∷ xs)
    go (inl z) rest = inl (1, omega arith, z)
    go (inr z) rest = later z.0 (rest z.0)

pub demand_1_over : Demand1Over
demand_1_over d u y k h c xs le s = go (walk most xs d u (fine_of d k y) h c le s)
  where
    go : Either most d u xs → Over most d u xs
    go (inl z) = z
    go (inr z) = absurd (omega (arith, z, demand_1 d u (and_one_more (take most xs)) k))

-- Its premise can be met, by timeouts alone.
pub timeouts_suit : (n : ℕ) (d : Drive) (u : List ℕ) → AllSuit command d u (replicate n timeout)
timeouts_suit zero d u = tt
timeouts_suit (suc n) d u = (timeout_suits d.state.phase, timeouts_suit n (replied d u timeout).step.drive (replied d u timeout).bytes)

-- A START
abbrev StepsTo : ℕ → Out → Type 0
StepsTo k y = Ends start y ⊎ ((k < 10) × GoesOn start y × (y.step.drive.state.phase ≡ phase.Awaiting (access.Start (k + 1))))

pub same_access : {x y : Access} → phase.Awaiting x ≡ phase.Awaiting y → x ≡ y
same_access e = cc

start_step : (d : Drive) (u : List ℕ) (x : Reply) (k : ℕ) → d.state.phase ≡ phase.Awaiting (access.Start k) → (of_answer (replied d u x).step.answer).refused ≡ false → StepsTo k (replied d u x)
unfolding follows
start_step d u x k e r =
    let w = accepted d u x.number x.bytes r in
    subst (StepsTo k) (sym w.gives) (subst (λ (y : Access). Then y) (same_access (sym e ∙ w.phase)) (go (start_next d.state d.table x.number x.bytes true k)))
  where
    Then : Access → Type 0
    Then y = StepsTo k (out_of d.table d.causes x.bytes u (followed y d u x.number x.bytes))

    go : NextRead k (start_answered k d.state x.number x.bytes) → Then (access.Start k)
    go (inl z) = inl (record { answer = z.0; phase = z.1 })
    go (inr z) = inr (z.0, record { accepted = ap (λ (y : Answer). (of_answer y).refused) z.1; awaited = ap (awaits of_start) z.2 }, z.2)

-- Says that with the k-th read of a start awaited, 11 - k answers are enough.
abbrev StartedOver : ℕ → Drive → List ℕ → List Reply → Type 0
StartedOver k d u xs = (n : ℕ) × (n ≤ 11 - k) × Completes start d u (take n xs)

start_walk : (xs : List Reply) (d : Drive) (u : List ℕ) (k : ℕ) → Fine d.table d.causes d.state → length u ≡ 536 → d.state.phase ≡ phase.Awaiting (access.Start k) → k ≤ 10 → 11 - k ≤ length xs → AllSuit start d u xs
    → StartedOver k d u xs
start_walk [] d u k f h e b le s = absurd (omega arith)
start_walk (x ∷ xs) d u k f h e b le s =
    go (start_step d u x k e (suited d u x (fine_ok d f) h (s.0 (ap (awaits of_start) e))))
    (λ p q. start_walk xs (replied d u x).step.drive (replied d u x).bytes (k + 1) (reply_fine d u x f) (reply_long d u x h) p (omega arith) (omega arith) s.1)
  where
    d' : Drive
    d' = (replied d u x).step.drive

    go : StepsTo k (replied d u x) → (d'.state.phase ≡ phase.Awaiting (access.Start (k + 1)) → k < 10 → StartedOver (k + 1) d' (replied d u x).bytes xs) → StartedOver k d u (x ∷ xs)
    go (inl z) rest = (1, omega arith, z)
    go (inr z) rest = let o = rest z.2 z.0 in (suc o.0, omega (arith, o.1, z.0), goes_then start d u x (take o.0 xs) z.1 o.2)

pub start_over : StartOver
unfolding start_of
start_over old lent h = rw (eq-eqb (length lent) 536 h) (λ xs le s. start_walk xs started (replicate 536 0) 1 started_fine refl refl (omega arith) le s)

-- A STORE
pub store_over : StoreOver
store_over d u k h c [] le s = absurd (omega arith)
store_over d u k h c (x ∷ xs) le s =
    let w = accepted d u x.number x.bytes (suited d u x k h (s.0 c)) in
    (1, omega arith, subst (Ends store) (sym w.gives) (store_next d.state d.table x.number x.bytes _ w.access d.causes u (sym (ap (awaits of_store) w.phase) ∙ c)))
