use mathlib.Core.Path.{◌≡◌}
use mathlib.Core.List.{◌++◌}
use lib.ListN.{length, drop}
use Rattle.image.specs.Layouts.{entries_from}
use Rattle.codec.proofs.entries.load.Given as goal

abbrev pub invariant-loop-k : goal.invariant-loop-k
invariant-loop-k l = (length l.out ≡ length l.initial.out) × (l.out ≡ entries_from l.w l.k (drop l.at l.s) ++ drop l.k l.initial.out)
