-- `calls::raise` meets its contract.
use borrow.Author.Rules.{rules}
use Rattle.calls.proofs.Guarded.{kept_gives}
use Rattle.calls.proofs.Keeping.{raise_keeps}
use Rattle.drive.specs.Calls.{step_of, raise_of}
use Rattle.calls.proofs.raise.Goals as goal

pub returns : goal.returns
unfolding step_of raise_of
returns c = kept_gives _ _ _ c.turn.ensures _ (λ x t b p e f k. search rules) (raise_keeps _ _)
