use mathlib.Core.Path.{◌≡◌}
use Prim.Native.Nat.{◌≤◌, ◌+◌, ◌*◌}
use lib.ListN.{drop}
use Rattle.test_script.specs.Sums.{adler_from, adler_of}
use Rattle.test_script.proofs.sum.adler.Given as goal

abbrev pub invariant-loop-x : goal.invariant-loop-x
invariant-loop-x l = (l.low ≤ 255 * l.x-index + 1) × (l.high ≤ 1044481 * l.x-index) × (adler_from l.low l.high (drop l.x-index l.s) ≡ adler_of l.s)
