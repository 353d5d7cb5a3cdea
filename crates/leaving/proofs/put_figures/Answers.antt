-- `leaving::put_figures` meets its contract.
use mathlib.Core.Path.{refl}
use Rattle.leaving.proofs.Buffers.{runs_put}
use Rattle.leaving.proofs.put_figures.Goals as goal

pub returns : goal.returns
returns c = rw (c.fill.ensures, c.put_four.ensures) (runs_put _ _ _ c.requires refl refl)
