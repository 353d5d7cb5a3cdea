use mathlib.Core.Path.{◌≡◌}
use mathlib.Core.Bool.{◌&&◌}
use lib.ListN.{drop}
use Rattle.buffer.specs.Runs.{all_are}
use Rattle.buffer.proofs.all_are.Given as goal

abbrev pub invariant-loop-x : goal.invariant-loop-x
invariant-loop-x l = (l.ok && all_are l.v (drop l.x-index l.s)) ≡ all_are l.v l.s
