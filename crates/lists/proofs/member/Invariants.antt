use mathlib.Core.Path.{◌≡◌}
use mathlib.Core.Bool.{◌||◌}
use lib.ListN.{drop}
use Rattle.lists.specs.Lists.{member_of}
use Rattle.lists.proofs.member.Given as goal

abbrev pub invariant-loop-y : goal.invariant-loop-y
invariant-loop-y l = (l.hit || member_of l.x (drop l.y-index l.s)) ≡ member_of l.x l.s
