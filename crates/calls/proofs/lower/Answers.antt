-- `calls::lower` meets its contract.
use borrow.Author.Rules.{rules}
use Rattle.calls.proofs.Guarded.{kept_gives}
use Rattle.calls.proofs.Keeping.{lower_keeps}
use Rattle.drive.specs.Calls.{step_of, lower_of}
use Rattle.calls.proofs.lower.Goals as goal

pub returns : goal.returns
unfolding step_of lower_of
returns c =
    kept_gives _ _ _ c.turn.ensures _ (λ x t b p e f k. rw (← e) (search rules)) (lower_keeps _ _ _ _)
