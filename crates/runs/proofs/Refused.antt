-- WHAT THE STATEMENTS OF CODE 1 SAY of two records: the ready one, and one with block 9728 on a spare. And which records and arguments
-- Rattle can hold, on both sides of each bound.
use mathlib.Core.Path.{◌≡◌, refl}
use mathlib.Core.Bool.{true, false}
use mathlib.Core.List.{List, [], ◌∷◌}
use Prim.Native.Nat.{ℕ, zero, suc, ◌<◌}
use native.Mathlib.Omega.{arith}
use lib.Dec.{eqb}
use lib.ListN.{replicate}
use Rattle.logic.proofs.Bools.{clash}
use Rattle.drive.specs.declared.Drive.{Drive}
use Rattle.drive.specs.Records.{record_ok}
use Rattle.drive.specs.Results.{Out}
use Rattle.drive.specs.Calls.{raise, lower, feed, surface, reset, step_of, start_of, image_out_of}
use Rattle.drive.specs.Values.{Bytewise, Typed, TypedCalls, NoCode1, Code1Never, record_refused, Code1Exactly}
use Rattle.drive.specs.Views.{of_answer}
use Rattle.drive.proofs.Computing.{computed}
use Rattle.drive.proofs.Examples.{ready}

-- Returns the ready record with these command bytes, causes, spares and run number.
abbrev record_of : List ℕ → List ℕ → List ℕ → ℕ → Drive
record_of command causes spares run =
    record {
      table = record { spares = spares; bads = replicate 100 0; nspares = 0; nbads = 0 };
      causes = causes;
      state = record { phase = ready.state.phase; marks = ready.state.marks; command = command; count = 0; fed = 0; run = run };
    }

abbrev zeros : List ℕ
zeros = replicate 32 0

-- WHAT RATTLE HOLDS

pub bytes_are_below_256 : Bytewise (0 ∷ 255 ∷ []) × (Bytewise (256 ∷ []) → ⊥) × (Bytewise (0 ∷ 256 ∷ []) → ⊥)
bytes_are_below_256 = (each, λ b. let z : 256 < 256 = b 0 in omega arith, λ b. let z : 256 < 256 = b 1 in omega arith)
  where
    each : Bytewise (0 ∷ 255 ∷ [])
    each zero = omega arith
    each (suc zero) = omega arith
    each (suc (suc k)) = omega arith

-- Holds six command bytes, the last of them the largest.
abbrev six : List ℕ
six = 0 ∷ 0 ∷ 0 ∷ 0 ∷ 0 ∷ 255 ∷ []

six_bytes : Bytewise six
six_bytes zero = omega arith
six_bytes (suc zero) = omega arith
six_bytes (suc (suc zero)) = omega arith
six_bytes (suc (suc (suc zero))) = omega arith
six_bytes (suc (suc (suc (suc zero)))) = omega arith
six_bytes (suc (suc (suc (suc (suc zero))))) = omega arith
six_bytes (suc (suc (suc (suc (suc (suc k)))))) = omega arith

pub a_record_is_typed : Typed (record_of six zeros zeros 4294967295)
a_record_is_typed = record { table = (refl, refl); causes = refl; run = omega arith; full = refl; bytes = six_bytes }

pub others_are_not :
    (Typed (record_of six zeros zeros 4294967296) → ⊥)
    × (Typed (record_of six zeros (0 ∷ zeros) 0) → ⊥)
    × (Typed (record_of six (0 ∷ zeros) zeros 0) → ⊥)
    × (Typed (record_of (0 ∷ six) zeros zeros 0) → ⊥)
    × (Typed (record_of (256 ∷ 0 ∷ 0 ∷ 0 ∷ 0 ∷ 0 ∷ []) zeros zeros 0) → ⊥)
others_are_not = (
  λ t. let z : 4294967296 < 4294967296 = t.run in omega arith,
  λ t. let z : ◌≡◌ {A = ℕ} 33 32 = t.table.0 in omega arith,
  λ t. let z : ◌≡◌ {A = ℕ} 33 32 = t.causes in omega arith,
  λ t. let z : ◌≡◌ {A = ℕ} 7 6 = t.full in omega arith,
  λ t. let z : 256 < 256 = t.bytes 0 in omega arith,
)

none : Bytewise []
none k = omega arith

pub calls_are_typed : TypedCalls (raise ∷ lower 255 ∷ feed (0 ∷ 255 ∷ []) ∷ surface 255 [] ∷ reset ∷ [])
calls_are_typed = (tt, (omega arith, (bytes_are_below_256.0, ((omega arith, none), (tt, tt)))))

pub other_calls_are_not :
    (TypedCalls (lower 256 ∷ []) → ⊥)
    × (TypedCalls (feed (256 ∷ []) ∷ []) → ⊥)
    × (TypedCalls (surface 256 [] ∷ []) → ⊥)
    × (TypedCalls (surface 0 (256 ∷ []) ∷ []) → ⊥)
    × (TypedCalls (raise ∷ lower 256 ∷ []) → ⊥)
other_calls_are_not = (
  λ t. let z : 256 < 256 = t.0 in omega arith,
  λ t. let z : 256 < 256 = t.0 0 in omega arith,
  λ t. let z : 256 < 256 = t.0.0 in omega arith,
  λ t. let z : 256 < 256 = t.0.1 0 in omega arith,
  λ t. let z : 256 < 256 = t.1.0 in omega arith,
)

-- CODE 1

abbrev lent : List ℕ
lent = replicate 536 9

-- Holds a record that code 1 refuses, and the code of a call.
abbrev broken : Drive
broken =
    record { table = record { spares = 9728 ∷ replicate 31 0; bads = replicate 100 0; nspares = 1; nbads = 0 }; causes = ready.causes; state = ready.state }

abbrev code_of : Out → ℕ
code_of x = (of_answer x.step.answer).code

pub one_is_valid : (record_ok ready ≡ true) × (record_ok broken ≡ false)
unfolding computed
one_is_valid = (refl, refl)

pub a_refusal_leaves_all : (code_of (record_refused broken lent) ≡ 1) × ((record_refused broken lent).step.drive ≡ broken) × ((record_refused broken lent).bytes ≡ lent)
a_refusal_leaves_all = (refl, refl, refl)

pub code_1_comes : NoCode1 broken lent (raise ∷ []) → ⊥
unfolding computed
code_1_comes n = clash refl n.0

-- The statements speak of the first call, of the next one with what that returned, of start and of image.
pub code_1_never_comes_twice :
    Code1Never → Typed ready
    → (eqb (code_of (step_of raise ready lent)) 1 ≡ false)
    × (eqb (code_of (step_of reset (step_of raise ready lent).step.drive (step_of raise ready lent).bytes)) 1 ≡ false)
    × (eqb (code_of (step_of raise (start_of broken lent).step.drive (start_of broken lent).bytes)) 1 ≡ false)
code_1_never_comes_twice never typed =
    let n = never.1 ready lent (raise ∷ reset ∷ []) typed one_is_valid.0 (tt, (tt, tt)) in
    (n.0, n.1.0, (never.0 broken lent (raise ∷ []) refl (tt, tt)).0)

pub code_1_exactly_here :
    Code1Exactly
    → (step_of raise broken lent ≡ record_refused broken lent)
    × (eqb (code_of (step_of raise ready lent)) 1 ≡ false)
    × (image_out_of broken lent ≡ record_refused broken lent)
    × (eqb (code_of (image_out_of ready lent)) 1 ≡ false)
    × (eqb (code_of (start_of broken lent)) 1 ≡ false)
code_1_exactly_here exactly =
    let step = exactly.step raise in (
      (step broken lent).damaged one_is_valid.1,
      (step ready lent).valid one_is_valid.0,
      (exactly.image broken lent).damaged one_is_valid.1,
      (exactly.image ready lent).valid one_is_valid.0,
      exactly.start broken lent,
    )
