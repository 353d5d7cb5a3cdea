-- The number that is left for a block.
use mathlib.Core.Path.{◌≡◌, refl}
use mathlib.Core.Bool.{Bool, true, false}
use Prim.Native.Nat.{ℕ}
use Rattle.logic.proofs.Bools.{clash}
use Rattle.geometry.specs.Geometry.{is_block}
use Rattle.drive.specs.declared.Kind.{Kind}
use Rattle.drive.specs.Handshake.{no_number, asks_buffer, asks_table, asks_health}

-- A number that is none of the others is a block.
pub block_left : (k : Kind) (v : ℕ) → no_number k v ≡ false → asks_buffer v ≡ false → asks_table v ≡ false → asks_health v ≡ false → is_block v ≡ true
unfolding no_number
block_left k v e f g h = left (is_block v) refl
  where
    left : (b : Bool) → is_block v ≡ b → b ≡ true
    left true p = refl
    left false p = let z = rw (p, f, g, h) at e in clash refl z
