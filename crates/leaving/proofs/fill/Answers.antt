-- `leaving::fill` meets its contract: no more is written than there is room for.
use mathlib.Core.Path.{sym}
use Rattle.leaving.proofs.Buffers.{none_filled}
use Rattle.leaving.proofs.fill.Goals as goal

pub returns-then-f-ge532 : goal.returns-then-f-ge532
returns-then-f-ge532 c = sym (none_filled _ _ c.if-f-ge532.true _)
