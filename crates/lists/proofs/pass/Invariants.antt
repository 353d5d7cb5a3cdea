use mathlib.Core.Path.{◌≡◌}
use mathlib.Core.Bool.{true}
use lib.ListN.{drop}
use Rattle.lists.specs.Lists.{entries_ok}
use Rattle.lists.proofs.Walk.{Classes}
use Rattle.lists.proofs.pass.Given as goal

abbrev pub invariant-loop-i : goal.invariant-loop-i
invariant-loop-i l = record { passed : entries_ok l.marks (drop l.i l.s) ≡ true; noted : Classes l.w l.seen (drop l.i l.s) }
