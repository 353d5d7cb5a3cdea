-- `calls::reset` meets its contract.
use borrow.Author.Rules.{rules}
use Rattle.calls.proofs.Guarded.{kept_gives}
use Rattle.calls.proofs.Keeping.{reset_keeps}
use Rattle.drive.specs.Calls.{step_of, reset_of}
use Rattle.calls.proofs.reset.Goals as goal

pub returns : goal.returns
unfolding step_of reset_of
returns c = kept_gives _ _ _ c.turn.ensures _ (λ x t b p e f k. search rules) (reset_keeps _ _)
