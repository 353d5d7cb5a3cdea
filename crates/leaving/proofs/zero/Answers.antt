-- `leaving::zero` meets its contract: the zeros reach the end.
use mathlib.Core.Path.{◌∙◌}
use Rattle.leaving.proofs.Buffers.{zeros_end}
use Rattle.leaving.proofs.zero.Goals as goal

pub returns : goal.returns
returns c = c.fill.ensures ∙ zeros_end _ _ c.if-f-ge532.false c.requires
