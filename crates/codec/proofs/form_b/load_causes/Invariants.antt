use mathlib.Core.Path.{◌≡◌}
use mathlib.Core.List.{◌++◌}
use lib.ListN.{length, drop, replicate}
use Rattle.image.specs.FormB.{causes_from}
use Rattle.codec.proofs.form_b.load_causes.Given as goal

abbrev pub invariant-loop-k : goal.invariant-loop-k
invariant-loop-k l = (length l.out ≡ 32) × (l.out ≡ causes_from l.k (drop 16 l.s) ++ drop l.k (replicate 32 0))
