use mathlib.Core.Path.{◌≡◌}
use mathlib.Core.Bool.{◌&&◌}
use lib.ListN.{drop}
use Rattle.table.specs.Tables.{causes_ok}
use Rattle.table.proofs.causes_ok.Given as goal

abbrev pub invariant-loop-cause : goal.invariant-loop-cause
invariant-loop-cause l = (l.ok && causes_ok (drop l.cause-index l.s)) ≡ causes_ok l.s
