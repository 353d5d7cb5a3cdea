-- The count of spares after one more died, where it can grow no more.
use mathlib.Core.Path.{◌≡◌, refl}
use mathlib.Core.Bool.{Bool, true, false}
use native.Mathlib.Omega.{arith}
use Prim.Native.Nat.{ℕ, ◌+◌, ◌≤◌, min}
use lib.Dec.{ltb}
use borrow.Author.Tests.{ltb-true, ltb-false, le-ltb}
use Rattle.std.proofs.Math.Nat.{min-eq_left}
use Rattle.geometry.specs.declared.Block.{Block}
use Rattle.drive.specs.declared.Cause.{Cause}
use Rattle.drive.specs.declared.Change.{Change}
use Rattle.drive.specs.declared.Seen.{Seen}
use Rattle.drive.specs.declared.State.{State}
use Rattle.drive.specs.Sparing.{next_spare}

-- There is no spare after the last one, and so none where the count stands still.
pub grown : (n : ℕ) (l : State) (c : Change) (b : Block) (s : Seen) (x y : Cause) → next_spare (min (n + 1) 18446744073709551615) l c b s x y ≡ next_spare (n + 1) l c b s x y
unfolding next_spare
grown n l c b s x y = go (ltb n 31) refl
  where
    go : (t : Bool) → ltb n 31 ≡ t → next_spare (min (n + 1) 18446744073709551615) l c b s x y ≡ next_spare (n + 1) l c b s x y
    go true p =
        let k : n + 1 ≤ 18446744073709551615 = omega (arith, ltb-true n 31 p) in
        rw (min-eq_left k)
    go false p =
        let j : 32 ≤ n + 1 = omega (arith, ltb-false n 31 p) in
        let k : 32 ≤ min (n + 1) 18446744073709551615 = omega (arith, j) in
        rw (le-ltb (n + 1) 32 j, le-ltb (min (n + 1) 18446744073709551615) 32 k)
