-- `calls::feed` meets its contract.
use borrow.Author.Rules.{rules}
use Rattle.calls.proofs.Guarded.{sound_so, kept_gives}
use Rattle.calls.proofs.Keeping.{feed_keeps}
use Rattle.drive.specs.Calls.{step_of, feed_of}
use Rattle.calls.proofs.feed.Goals as goal

pub turn-requires : goal.turn-requires
turn-requires c = λ p t e b f. let z = sound_so _ p.0 p.1 in let a = z.count in let b = z.fed in search rules

pub returns : goal.returns
unfolding step_of feed_of
returns c = kept_gives _ _ _ c.turn.ensures _ (λ x t b p e f k. search rules) (feed_keeps _ _ _)
