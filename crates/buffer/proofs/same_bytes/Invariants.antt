use mathlib.Core.Path.{◌≡◌}
use mathlib.Core.Bool.{◌&&◌}
use lib.ListN.{drop}
use Rattle.buffer.specs.Runs.{same}
use Rattle.buffer.proofs.same_bytes.Given as goal

abbrev pub invariant-loop-i : goal.invariant-loop-i
invariant-loop-i l = (l.ok && same (drop l.i l.a) (drop l.i l.b)) ≡ same l.a l.b
