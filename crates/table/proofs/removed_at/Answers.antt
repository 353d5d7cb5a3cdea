-- `table::removed_at` meets its contract: up to place 99 the array has its gap.
use mathlib.Core.Path.{◌≡◌}
use native.Mathlib.Omega.{arith}
use Rattle.table.proofs.Arrays.{gap_end}
use Rattle.table.proofs.removed_at.Goals as goal

pub returns : goal.returns
returns c = let e : c.loop-i.i ≡ 99 = omega arith in rw (c.loop-i.invariant, e) (gap_end c.args.k c.args.a 99 (omega arith) (omega arith))
