-- THE CALLS WHILE AN ACCESS IS AWAITED: no call but a surface call is accepted, and one that is gives what follows the access.
use mathlib.Core.Path.{◌≡◌, refl}
use mathlib.Core.Bool.{Bool, true, false, ◌&&◌}
use mathlib.Core.List.{List}
use Prim.Native.Nat.{ℕ}
use lib.Dec.{eqb}
use lib.ListN.{length}
use Rattle.logic.proofs.Bools.{clash}
use Rattle.buffer.specs.Runs.{same}
use Rattle.drive.specs.declared.Access.{Access}
use Rattle.drive.specs.declared.Drive.{Drive}
use Rattle.drive.specs.declared.Phase.{Phase}
use Rattle.drive.specs.declared.Phase.TheVariants as phase
use Rattle.drive.specs.declared.Turn.{Turn}
use Rattle.drive.specs.Words.{data_of}
use Rattle.drive.specs.Records.{record_ok, awaits}
use Rattle.drive.specs.Results.{out_of, guarded}
use Rattle.drive.specs.Handshake.{raised, lowered, fed_to, rested}
use Rattle.drive.specs.Access.{asks_read, answer_fits, bytes_fit, is_compared, verifies, follows, answered}
use Rattle.drive.specs.Calls.{Call, raise, lower, feed, surface, reset, raise_of, lower_of, feed_of, surface_of, reset_of, step_of}
use Rattle.drive.specs.Views.{of_answer}
use Rattle.records.proofs.Ladders.{guarded_cases, fitting_cases}

-- Returns what f says of the awaited access, or z where none is awaited.
abbrev pub of_phase {ℓ} : {A : Type ℓ} → A → (Access → A) → Phase → A
of_phase z f phase.Idle = z
of_phase z f (phase.Offered o) = z
of_phase z f phase.Command = z
of_phase z f phase.Data = z
of_phase z f (phase.Awaiting x) = f x

-- Proves a property of a phase in which an access is awaited that passes a test.
pub awaited : (P : Phase → Type 0) (f : Access → Bool) → ((x : Access) → f x ≡ true → P (phase.Awaiting x)) → (p : Phase) → awaits f p ≡ true → P p
awaited P f h phase.Idle e = clash e refl
awaited P f h (phase.Offered o) e = clash e refl
awaited P f h phase.Command e = clash e refl
awaited P f h phase.Data e = clash e refl
awaited P f h (phase.Awaiting x) e = h x e

-- Returns what a surface call's own rule gives for an access.
abbrev pub followed : Access → Drive → List ℕ → ℕ → List ℕ → Turn
followed x d u a bs = follows x d.state d.table a bs (is_compared x && eqb a 0 && same bs (data_of u))

-- Says that a surface call answered an access that was awaited, that the codes 1, 2, 4 and 5 let it pass, and what it gave.
pub record Accepted (d : Drive) (u : List ℕ) (a : ℕ) (bs : List ℕ) : Type 0 where
  pub access : Access
  pub phase : d.state.phase ≡ phase.Awaiting access
  pub valid : record_ok d ≡ true
  pub long : eqb (length u) 536 ≡ true
  pub answer : answer_fits (asks_read access) a ≡ true
  pub bytes : bytes_fit (asks_read access) a (length bs) ≡ true
  pub gives : surface_of d u a bs ≡ out_of d.table d.causes bs u (followed access d u a bs)

module _ (d : Drive) (u : List ℕ) (a : ℕ) (bs : List ℕ) where
  abbrev If : Turn → Type 0
  If y = surface_of d u a bs ≡ out_of d.table d.causes bs u y → (of_answer y.answer).refused ≡ false → Accepted d u a bs

  by_phase : record_ok d ≡ true → eqb (length u) 536 ≡ true → (p : Phase) → d.state.phase ≡ p → If (answered p d.state d.table a bs (verifies p a && same bs (data_of u)))
  unfolding answered
  by_phase k h phase.Idle e = λ g r. clash refl r
  by_phase k h (phase.Offered o) e = λ g r. clash refl r
  by_phase k h phase.Command e = λ g r. clash refl r
  by_phase k h phase.Data e = λ g r. clash refl r
  by_phase k h (phase.Awaiting x) e =
      fitting_cases If (asks_read x) d.state a (length bs) _
      (record {
        answer = λ f g r. clash refl r;
        bytes = λ f i g r. clash refl r;
        fits = λ f i g r. record { access = x; phase = e; valid = k; long = h; answer = f; bytes = i; gives = g };
      })

  pub accepted : (of_answer (surface_of d u a bs).step.answer).refused ≡ false → Accepted d u a bs
  unfolding surface_of
  accepted =
      guarded_cases If (record_ok d) (length u) d.state _
      (record { damaged = λ k g r. clash refl r; length = λ k h g r. clash refl r; passes = λ k h. by_phase k h d.state.phase refl })
      refl

-- Every other call is out of place.
module _ (d : Drive) (u : List ℕ) (f : Access → Bool) (e : awaits f d.state.phase ≡ true) where
  abbrev Declines : Turn → Type 0
  Declines y = (of_answer y.answer).refused ≡ true

  declines : (x : Turn) → Declines x → Declines (guarded (record_ok d) (length u) d.state x)
  declines x h = guarded_cases Declines (record_ok d) (length u) d.state x (record { damaged = λ k. refl; length = λ k l. refl; passes = λ k l. h })

  in_phase_lem : (g : Phase → Turn) → ((x : Access) → Declines (g (phase.Awaiting x))) → Declines (g d.state.phase)
  in_phase_lem g h = awaited (λ (p : Phase). Declines (g p)) f (λ x i. h x) d.state.phase e

  -- Proves a property of a call, given it of those that are refused and of surface calls.
  pub by_surface : (P : Call → Type 0) → ((c : Call) → (of_answer (step_of c d u).step.answer).refused ≡ true → P c) → ((a : ℕ) (bs : List ℕ) → P (surface a bs)) → (c : Call) → P c
  unfolding step_of raise_of lower_of feed_of reset_of raised lowered fed_to rested
  by_surface P none own raise = none raise (declines _ (in_phase_lem (λ p. raised p d.state) (λ x. refl)))
  by_surface P none own (lower b) = none (lower b) (declines _ (in_phase_lem (λ p. lowered p d.state d.table b) (λ x. refl)))
  by_surface P none own (feed bs) = none (feed bs) (declines _ (in_phase_lem (λ p. fed_to p d.state bs) (λ x. refl)))
  by_surface P none own (surface a bs) = own a bs
  by_surface P none own reset = none reset (declines _ (in_phase_lem (λ p. rested p d.state) (λ x. refl)))
