-- `calls::surface` meets its contract.
use mathlib.Core.Path.{◌≡◌}
use mathlib.Core.Bool.{true, ◌&&◌}
use borrow.Author.Rules.{rules}
use Rattle.buffer.specs.Runs.{same}
use Rattle.drive.specs.Access.{verifies, answered}
use Rattle.drive.specs.Calls.{step_of, surface_of}
use Rattle.drive.specs.Records.{state_ok}
use Rattle.drive.specs.Words.{data_of}
use Rattle.calls.proofs.Guarded.{sound_so, altered_gives, formed_gives}
use Rattle.calls.proofs.Keeping.{answered_formed}
use Rattle.calls.proofs.surface.Goals as goal

pub turn-requires : goal.turn-requires
turn-requires c = λ p t e b f.
    let z = sound_so _ p.0 p.1 in
    let a : state_ok t.now.nspares c.args.d.now.state ≡ true = rw e z.state in
    search rules

pub returns : goal.returns
unfolding step_of surface_of
returns c =
    let a = c.args in
    let d = a.d.now in
    let r = answered d.state.phase d.state d.table a.a a.bytes.now (verifies d.state.phase a.a && same a.bytes.now (data_of a.buf.now)) in
    record {
      gives = altered_gives _ _ _ c.turn.ensures r (λ x t b p e f k. rw (← e, ← f) (search rules));
      formed = formed_gives _ _ _ c.turn.ensures r (λ x t b p e f k. rw (← e, ← f) (search rules)) (answered_formed a.bytes.now _ _ _ _ _);
    }
