-- WHEN A TASK IS OVER, computed: answers that complete a start, a store and a command, and answers that do not.
use mathlib.Core.Path.{◌≡◌, refl, ap, sym}
use mathlib.Core.Bool.{true, false}
use mathlib.Core.List.{List, [], ◌∷◌}
use Prim.Native.Nat.{ℕ, zero, suc}
use native.Mathlib.Omega.{arith}
use lib.ListN.{take, replicate}
use Rattle.logic.proofs.Bools.{clash}
use Rattle.image.specs.FormA.{form_a}
use Rattle.drive.specs.declared.Access.TheVariants as access
use Rattle.drive.specs.declared.Answer.{Answer}
use Rattle.drive.specs.declared.Answer.TheVariants as answer
use Rattle.drive.specs.declared.Phase.TheVariants as phase
use Rattle.drive.specs.Records.{awaits}
use Rattle.drive.specs.Results.{Out}
use Rattle.drive.specs.Bound.{is_command}
use Rattle.drive.specs.Calls.{reset, surface, step_of, start_of, started}
use Rattle.drive.specs.History.{is_at}
use Rattle.drive.specs.Values.{Typed}
use Rattle.drive.specs.Over.{Reply, replied, suits, of_start, Task, start, store, command, Completes, AllSuit, OverWithin, SuitsExactly, OverByFinished, Demand1Over, StartOver, StoreOver}
use Rattle.drive.specs.Views.{of_answer}
use Rattle.drive.proofs.Computing.{computed}
use Rattle.drive.proofs.Examples.{timeout, reading}
use Rattle.drive.proofs.Codes.{close}
use Rattle.drive.proofs.Reached.{begun, writing, storing}

-- Answers for the surface: a number, and the bytes that come with it.
abbrev reply : ℕ → List ℕ → Reply
reply n bs = record { number = n; bytes = bs }

abbrev done : Reply
done = reply 0 []

abbrev pub good : Reply
good = reply 0 (replicate 532 7)

abbrev pub crc : Reply
crc = reply 1 (replicate 532 1)

abbrev pub late : Reply
late = reply 2 []

abbrev image : Reply
image = reply 0 (form_a [] [])

abbrev wrong : Reply
wrong = reply 4 []

-- Says that these answers complete a task that is under way after a call, and that they suit it.
abbrev Completed : Task → Out → List Reply → Type 0
Completed k x rs = Completes k x.step.drive x.bytes rs

abbrev Suited : Task → Out → List Reply → Type 0
Suited k x rs = AllSuit k x.step.drive x.bytes rs

-- Holds what an accepted start gives: its read is awaited.
abbrev starting : Out
starting = record { step = record { drive = started; answer = answer.Wait }; bytes = replicate 536 0 }

-- COMPLETE

pub a_table_completes_a_start : Completed start starting (late ∷ image ∷ [])
unfolding computed
a_table_completes_a_start = (record { accepted = refl; awaited = refl }, record { answer = refl; phase = refl })

pub any_answer_completes_a_store : Completed store storing (late ∷ []) × Completed store storing (done ∷ [])
unfolding computed
any_answer_completes_a_store = (record { answer = refl; phase = refl }, record { answer = refl; phase = refl })

pub a_finish_completes_a_command : Completed command writing (done ∷ []) × Completed command (reading 0 1 []) (crc ∷ good ∷ [])
unfolding computed
a_finish_completes_a_command = (record { answer = refl; phase = refl }, (record { accepted = refl; awaited = refl }, record { answer = refl; phase = refl }))

-- The store's answer completes its command, and not the answer that asks for it.
pub a_store_completes_its_command :
    Completed command storing (done ∷ []) × Completed command (reading 0 1 (replicate 10 timeout)) (late ∷ late ∷ []) × (Completed command (reading 0 1 (replicate 10 timeout)) (late ∷ []) → ⊥)
unfolding computed
a_store_completes_its_command = (
  record { answer = refl; phase = refl },
  (record { accepted = refl; awaited = refl }, record { answer = refl; phase = refl }),
  λ c. clash refl (sym (ap (λ (a : Answer). (of_answer a).finished) c.answer)),
)

-- NOT COMPLETE

pub no_answer_completes_nothing : Completed start starting [] → ⊥
no_answer_completes_nothing c = c

pub a_start_that_goes_on_is_not_over : Completed start starting (late ∷ []) → ⊥
unfolding computed
a_start_that_goes_on_is_not_over c = clash refl (ap (λ (a : Answer). is_at (of_answer a).read) c.answer)

pub an_answer_after_the_end_is_one_too_many : Completed start starting (image ∷ late ∷ []) → ⊥
unfolding computed
an_answer_after_the_end_is_one_too_many c = clash c.0.awaited refl

pub a_refused_answer_does_not_count : Completed start starting (wrong ∷ image ∷ []) → ⊥
unfolding computed
a_refused_answer_does_not_count c = clash refl c.0.accepted

-- The reads of a command are no store, a write is no start, and a start is no command.
pub no_task_is_completed_by_another :
    (Completed store (reading 0 1 []) (crc ∷ good ∷ []) → ⊥) × (Completed start writing (done ∷ []) → ⊥) × (Completed command starting (late ∷ image ∷ []) → ⊥)
unfolding computed
no_task_is_completed_by_another = (
  λ c. clash c.0.awaited refl,
  λ c. clash refl (ap (λ (a : Answer). (of_answer a).finished) c.answer),
  λ c. clash c.0.awaited refl,
)

-- Asks for another phase at the end.
pub a_task_ends_in_its_phase : Completed (record { has = of_start; says = start.says; leaves = phase.Awaiting (access.Start 1) }) starting (image ∷ []) → ⊥
unfolding computed
a_task_ends_in_its_phase c = clash refl (sym (ap (awaits of_start) c.phase))

-- SUIT

pub record Suits : Type 0 where
  pub start : suits (phase.Awaiting (access.Start 1)) late ≡ true
  pub start_above_3 : suits (phase.Awaiting (access.Start 1)) wrong ≡ false
  pub start_without_bytes : suits (phase.Awaiting (access.Start 1)) done ≡ false
  pub start_with_bytes : suits (phase.Awaiting (access.Start 1)) crc ≡ true
  pub store : suits (phase.Awaiting (access.Store close)) done ≡ true
  pub store_answered_1 : suits (phase.Awaiting (access.Store close)) (reply 1 []) ≡ false
  pub store_with_bytes : suits (phase.Awaiting (access.Store close)) good ≡ false
  pub idle : suits phase.Idle late ≡ false

pub suited : Suits
unfolding computed
suited = record { start = refl; start_above_3 = refl; start_without_bytes = refl; start_with_bytes = refl; store = refl; store_answered_1 = refl; store_with_bytes = refl; idle = refl }

pub a_wrong_answer_does_not_suit :
    (Suited start starting (wrong ∷ []) → ⊥)
    × (Suited start starting (late ∷ wrong ∷ []) → ⊥)
    × (Suited store storing (wrong ∷ []) → ⊥)
    × (Suited command begun (wrong ∷ []) → ⊥)
    × (Suited command storing (wrong ∷ []) → ⊥)
unfolding computed
a_wrong_answer_does_not_suit = (
  λ a. clash (a.0 refl) refl,
  λ a. clash (a.1.0 refl) refl,
  λ a. clash (a.0 refl) refl,
  λ a. clash (a.0 refl) refl,
  λ a. clash (a.0 refl) refl,
)

-- What comes after the end, or while something else is under way, need not suit.
pub beside_the_task_anything_suits :
    Suited start starting (image ∷ wrong ∷ []) × Suited start storing (wrong ∷ []) × Suited start begun (wrong ∷ []) × Suited store starting (wrong ∷ []) × Suited store writing (wrong ∷ []) × Suited command starting (wrong ∷ [])
unfolding computed
beside_the_task_anything_suits = (
  (λ h. refl, (λ h. clash h refl, tt)),
  (λ h. clash h refl, tt),
  (λ h. clash h refl, tt),
  (λ h. clash h refl, tt),
  (λ h. clash h refl, tt),
  (λ h. clash h refl, tt),
)

-- WITHIN

-- Says that no number of answers taken from one timeout completes a start.
none_of_one : (n : ℕ) → Completes start starting.step.drive starting.bytes (take n (late ∷ [])) → ⊥
unfolding computed
none_of_one zero c = c
none_of_one (suc zero) c = a_start_that_goes_on_is_not_over c
none_of_one (suc (suc n)) c = a_start_that_goes_on_is_not_over c

pub a_start_is_not_over_within_one : OverWithin 1 start starting.step.drive starting.bytes → ⊥
unfolding computed
a_start_is_not_over_within_one w = let x = w (late ∷ []) (omega arith) (λ h. refl, tt) in none_of_one x.0 x.2

-- THE STATEMENTS, of one drive each

pub demand_1_of_the_longest_read : Demand1Over → Typed begun.step.drive → OverWithin 3680 command begun.step.drive begun.bytes
unfolding computed
demand_1_of_the_longest_read demand typed = demand begun.step.drive begun.bytes typed refl refl refl

pub a_start_is_over_within_ten : StartOver → OverWithin 10 start (start_of started (replicate 536 3)).step.drive (start_of started (replicate 536 3)).bytes
unfolding computed
a_start_is_over_within_ten over = over started (replicate 536 3) refl

pub a_store_is_over_within_one : StoreOver → OverWithin 1 store storing.step.drive storing.bytes
unfolding computed
a_store_is_over_within_one over = over storing.step.drive storing.bytes refl refl refl

-- A reset that is refused leaves the write under way, and the store's answer ends the command.
pub a_command_is_over_by_finished :
    OverByFinished
    → (is_command (step_of reset writing.step.drive writing.bytes).step.drive.state.phase ≡ true)
    × (is_command (step_of (surface 2 []) storing.step.drive storing.bytes).step.drive.state.phase ≡ false)
unfolding computed
a_command_is_over_by_finished over = (over reset writing.step.drive writing.bytes refl, over (surface 2 []) storing.step.drive storing.bytes refl)

pub answers_that_suit_are_accepted :
    SuitsExactly
    → ((of_answer (replied storing.step.drive storing.bytes late).step.answer).refused ≡ false)
    × ((of_answer (replied storing.step.drive storing.bytes wrong).step.answer).refused ≡ true)
unfolding computed
answers_that_suit_are_accepted exactly = (exactly storing.step.drive storing.bytes late refl refl, exactly storing.step.drive storing.bytes wrong refl refl)
