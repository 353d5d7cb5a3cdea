use mathlib.Core.Path.{◌≡◌}
use Prim.Native.Nat.{◌≤◌, ◌+◌, ◌*◌}
use lib.ListN.{take, drop}
use Rattle.buffer.specs.Runs.{over, sum}
use Rattle.buffer.proofs.put_summed.Given as goal

abbrev pub invariant-loop-i : goal.invariant-loop-i
invariant-loop-i l = (l.out ≡ over l.at (take l.i l.run) l.initial.out) × (l.t ≤ 255 * l.i) × (l.t + sum (drop l.i l.run) ≡ sum l.run)
