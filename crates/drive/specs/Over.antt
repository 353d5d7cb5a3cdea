-- DEMAND 1, with the bound of requests 4 and 7 of document 02: a command is over by finished and, until the next start, by nothing
-- else. A start is over after at most ten accesses, and a store after one, which finishes its command. All this for answers of the
-- surface that the codes 4 and 5 do not refuse.
use Rattle.std.specs.Prelude.{◌≡◌, Bool, true, false, not, ◌&&◌, List, [], ◌∷◌, ℕ, ◌≤◌, length, take}
use Rattle.drive.specs.declared.Drive.{Drive}
use Rattle.drive.specs.declared.Access.{Access}
use Rattle.drive.specs.declared.Phase.{Phase}
use Rattle.drive.specs.declared.Phase.TheVariants as phase
use Rattle.drive.specs.declared.Answer.{Answer}
use Rattle.drive.specs.declared.Answer.TheVariants as answer
use Rattle.drive.specs.Records.{record_ok, awaits, of_access}
use Rattle.drive.specs.Results.{Out}
use Rattle.drive.specs.Access.{asks_read, answer_fits, bytes_fit}
use Rattle.drive.specs.Calls.{Call, surface_of, step_of, start_of}
use Rattle.drive.specs.Values.{Typed}
use Rattle.drive.specs.Bound.{of_command, is_command, most}
use Rattle.drive.specs.Views.{of_answer}

-- Holds an answer of the surface and the bytes that it brings.
pub record Reply : Type 0 where
  pub number : ℕ
  pub bytes : List ℕ

-- Returns what the surface call gives with it.
abbrev pub replied : Drive → List ℕ → Reply → Out
replied d u x = surface_of d u x.number x.bytes

-- Says whether codes 4 and 5 do not apply to the answer, for the access that is awaited.
abbrev pub suits : Phase → Reply → Bool
suits p x = awaits (λ (y : Access). answer_fits (asks_read y) x.number && bytes_fit (asks_read y) x.number (length x.bytes)) p

-- Says whether an access is a start's read.
abbrev pub of_start : Access → Bool
of_start x = (of_access x).start

-- Says whether an access is the store.
abbrev pub of_store : Access → Bool
of_store x = (of_access x).store

-- Names what is under way at the surface.
pub record Task : Type 0 where
  pub has : Access → Bool  -- whether an access belongs to it
  pub says : Answer  -- what the drive answers when it is over
  pub leaves : Phase  -- the phase that it leaves

-- Ends by finished, idle.
abbrev pub command : Task
command = record { has = of_command; says = answer.Finished; leaves = phase.Idle }

-- Ends by wait, idle: "Then it waits, idle, with the table or with none."
abbrev pub start : Task
start = record { has = of_start; says = answer.Wait; leaves = phase.Idle }

-- Ends by finished, idle: a command "stores the table before it finishes".
abbrev pub store : Task
store = record { has = of_store; says = answer.Finished; leaves = phase.Idle }

-- Says that a call ended the task.
pub record Ends (k : Task) (y : Out) : Type 0 where
  pub answer : y.step.answer ≡ k.says
  pub phase : y.step.drive.state.phase ≡ k.leaves

-- Says that a call was accepted and left the task under way.
pub record GoesOn (k : Task) (y : Out) : Type 0 where
  pub accepted : (of_answer y.step.answer).refused ≡ false
  pub awaited : awaits k.has y.step.drive.state.phase ≡ true

-- Says that the last of the answers ends the task, and that each before it is accepted and leaves it under way.
abbrev pub Completes : Task → Drive → List ℕ → List Reply → Type 0
Completes k d u [] = ⊥
Completes k d u (x ∷ []) = Ends k (replied d u x)
Completes k d u (x ∷ y ∷ ys) =
    GoesOn k (replied d u x) × Completes k (replied d u x).step.drive (replied d u x).bytes (y ∷ ys)

-- Says that each answer suits what is awaited at its place, as long as the task is under way.
abbrev pub AllSuit : Task → Drive → List ℕ → List Reply → Type 0
AllSuit k d u [] = Unit {0}
AllSuit k d u (x ∷ xs) =
    (awaits k.has d.state.phase ≡ true → suits d.state.phase x ≡ true)
    × AllSuit k (replied d u x).step.drive (replied d u x).bytes xs

-- Says that of any m or more answers that suit, the first m or fewer complete the task.
abbrev pub OverWithin : ℕ → Task → Drive → List ℕ → Type 0
OverWithin m k d u =
    (xs : List Reply) → m ≤ length xs → AllSuit k d u xs
    → (n : ℕ) × (n ≤ m) × Completes k d u (take n xs)

-- Says that exactly the answers that suit are accepted, whatever the phase.
abbrev pub SuitsExactly : Type 0
SuitsExactly =
    (d : Drive) (u : List ℕ) (x : Reply) → record_ok d ≡ true → length u ≡ 536
    → (of_answer (replied d u x).step.answer).refused ≡ not (suits d.state.phase x)

-- Says that a command is over by finished and, until the next start, by nothing else: whatever other call comes while it is under
-- way, it is under way afterwards exactly if finished was not answered.
abbrev pub OverByFinished : Type 0
OverByFinished =
    (c : Call) (d : Drive) (u : List ℕ) → is_command d.state.phase ≡ true
    → is_command (step_of c d u).step.drive.state.phase ≡ not (of_answer (step_of c d u).step.answer).finished

-- Says that a command is over in time. "A command is over after at most 478 surface accesses", 3,680 by now.
abbrev pub Demand1Over : Type 0
Demand1Over =
    (d : Drive) (u : List ℕ) → Typed d → record_ok d ≡ true → length u ≡ 536 → is_command d.state.phase ≡ true
    → OverWithin most command d u

-- Says that a start is over in time. "It reads until a well-formed image comes with answer 0, at most 10 times"
abbrev pub StartOver : Type 0
StartOver =
    (old : Drive) (lent : List ℕ) → length lent ≡ 536
    → OverWithin 10 start (start_of old lent).step.drive (start_of old lent).bytes

-- Says that a store is over after one answer, whatever it is, and its command is finished with it. "one access more"
abbrev pub StoreOver : Type 0
StoreOver = (d : Drive) (u : List ℕ) → record_ok d ≡ true → length u ≡ 536 → awaits of_store d.state.phase ≡ true → OverWithin 1 store d u
