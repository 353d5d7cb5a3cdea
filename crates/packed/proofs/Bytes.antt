-- What std says of a flag as a number and of two bytes as one is a word of the packing.
use mathlib.Core.Path.{◌≡◌, refl}
use mathlib.Core.Bool.{Bool, true, false}
use mathlib.Core.List.{[], ◌∷◌}
use Prim.Native.Nat.{ℕ}
use native.Mathlib.Omega.{arith}
use Rattle.std.specs.Int.{w16, from_bool, from_le_bytes}
use Rattle.packed.specs.Packing.{bit, pair}

pub bit_is : (b : Bool) → from_bool b ≡ bit b
bit_is true = refl
bit_is false = refl

pub pair_is : (a b : ℕ) → from_le_bytes w16 (a ∷ b ∷ []) ≡ pair a b
pair_is a b = omega arith
