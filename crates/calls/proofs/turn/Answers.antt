-- `calls::turn` meets its contract.
use mathlib.Core.Path.{refl, ap, ◌∙◌}
use lib.ListN.{length}
use Rattle.drive.specs.declared.Drive.{Drive}
use Rattle.drive.specs.Results.{refuse}
use Rattle.calls.proofs.Guarded.{sound, passed_by, turn_refused}
use Rattle.calls.proofs.turn.Goals as goal

pub put-requires : goal.put-requires
put-requires g c = (sound _ (length c.args.buf.now) 536 c.guard.ensures c.in-Ok.is).0.long

pub returns-in-Err : goal.returns-in-Err
returns-in-Err g c =
    turn_refused c.args.d.now c.args.buf.now c.args.bytes.now _ c.guard.ensures c.in-Err.is (c.refuse.ensures ∙ ap (λ (d : Drive). refuse c.in-Err.r d.state) c.d.view_is)

pub rule-x-requires : goal.rule-x-requires
rule-x-requires g c =
    let z = passed_by _ _ c.guard.ensures c.in-Ok.is in
    rw (ap (λ (d : Drive). d.state) c.d.view_is) (c.requires z.0 _ z.1 _ refl)
