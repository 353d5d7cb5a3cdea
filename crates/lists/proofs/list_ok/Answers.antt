-- `lists::list_ok` meets its contract: no class is seen at first.
use native.Mathlib.Omega.{arith}
use Rattle.lists.proofs.Walk.{none_seen}
use Rattle.lists.proofs.list_ok.Goals as goal

pub pass-requires : goal.pass-requires
pass-requires c = (omega arith, none_seen 128)

pub pass-requires-2 : goal.pass-requires-2
pass-requires-2 c = (omega arith, none_seen 1024)
