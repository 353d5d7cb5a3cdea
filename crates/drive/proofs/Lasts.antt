-- What a rule asks at the last place of a list, and what it cannot be met with. Forged lists and unlawful runs cite it.
use mathlib.Core.Path.{◌≡◌}
use mathlib.Core.Bool.{false}
use mathlib.Core.List.{List, [], ◌∷◌}
use Prim.Native.Nat.{ℕ}
use borrow.Author.Tests.{eq-eqb}
use lib.Dec.{eqb}
use Rattle.logic.proofs.Bools.{clash}

pub differ : (m n : ℕ) → eqb m n ≡ false → m ≡ n → ⊥
differ m n h e = clash (eq-eqb m n e) h

-- Says what is asked at the last element of a list, where each element takes one state to the next.
abbrev pub AtLast : {S A : Type 0} → (S → A → S) → (S → A → Type 0) → S → List A → Type 0
AtLast step Asks s [] = Unit {0}
AtLast step Asks s (x ∷ []) = Asks s x
AtLast step Asks s (x ∷ y ∷ ys) = AtLast step Asks (step s x) (y ∷ ys)

-- Follows from a rule for whole lists that asks it at the first element, and itself after that.
pub at_last : {S A : Type 0} (step : S → A → S) (Asks : S → A → Type 0) (Rule : S → List A → Type 0)
    → ((s : S) (x : A) (xs : List A) → Rule s (x ∷ xs) → Asks s x)
    → ((s : S) (x : A) (xs : List A) → Rule s (x ∷ xs) → Rule (step s x) xs)
    → (s : S) (xs : List A) → Rule s xs → AtLast step Asks s xs
at_last step Asks Rule here after s [] a = tt
at_last step Asks Rule here after s (x ∷ []) a = here s x [] a
at_last step Asks Rule here after s (x ∷ y ∷ ys) a = at_last step Asks Rule here after (step s x) (y ∷ ys) (after s x (y ∷ ys) a)
