use mathlib.Core.Path.{◌≡◌}
use Prim.Native.Nat.{◌≤◌, ◌+◌, ◌*◌}
use lib.ListN.{drop}
use Rattle.buffer.specs.Runs.{sum}
use Rattle.buffer.proofs.sum.Given as goal

abbrev pub invariant-loop-x : goal.invariant-loop-x
invariant-loop-x l = (l.t ≤ 255 * l.x-index) × (l.t + sum (drop l.x-index l.s) ≡ sum l.s)
