use mathlib.Core.Path.{◌≡◌}
use Prim.Native.Nat.{◌+◌}
use lib.ListN.{drop}
use Rattle.lists.specs.Lists.{index_of, member_of}
use Rattle.lists.proofs.find.Given as goal

abbrev pub invariant-loop-i : goal.invariant-loop-i
invariant-loop-i l = (member_of l.x l.s ≡ member_of l.x (drop l.i l.s)) × (index_of l.x l.s ≡ l.i + index_of l.x (drop l.i l.s))
