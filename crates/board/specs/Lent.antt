-- What a call over a lent record leaves.
use Rattle.std.specs.Prelude.{◌≡◌, List, ℕ}
use Rattle.std.specs.Fn.{Once}
use denote.Ref.{MutBor}
use Rattle.drive.specs.declared.Drive.{Drive}
use Rattle.drive.specs.declared.Step.{Step}
use Rattle.drive.specs.declared.Answer.{Answer}
use Rattle.drive.specs.Results.{Out}
use Rattle.calls.specs.declared.Controller.{Controller}

-- Says that a call with the result x hands back the answer a and leaves the record d and the bytes v.
abbrev pub Leaves : Out → Answer → Drive → List ℕ → Type 0
Leaves x a d v = (a ≡ x.step.answer) × (d ≡ x.step.drive) × (v ≡ x.bytes)

-- Says that f, called by value with the record d and the bytes u, may hand back a step with the answer a and the record e, and leave the bytes v.
pub record Lends {F : Type 0} (g : Once F (Controller × (MutBor (List ℕ) × Unit {0})) (Step × (MutBor (List ℕ) × Unit {0}))) (f : F) (d : Drive) (u : List ℕ) (a : Answer) (e : Drive) (v : List ℕ) : Type 0 where
  pub shown : MutBor (List ℕ)
  pub shows : shown.now ≡ u
  pub step : Step
  pub left : MutBor (List ℕ)
  pub met : g.post f (record { 0 = d }, (shown, tt)) (step, (left, tt))
  pub answer : a ≡ step.answer
  pub drive : e ≡ step.drive
  pub leaves : v ≡ left.now
