-- `calls::Controller::image` meets its contract.
use mathlib.Core.Path.{◌≡◌, refl, ap, ◌∙◌}
use borrow.Author.Rules.{rules}
use lib.ListN.{length}
use Rattle.drive.specs.declared.Drive.{Drive}
use Rattle.calls.proofs.Guarded.{sound, image_refused, image_no_table, image_given}
use Rattle.calls.proofs.Controller.image.Goals as goal
use Rattle.calls.proofs.Controller.image.Goals.{in-Err, in-Ok+then-self, in-Ok+else-self}

pub write_stored-requires : goal.write_stored-requires
write_stored-requires c =
    let z = sound _ (length c.args.buf.now) 532 c.guard.ensures c.in-Ok.is in
    let s : length c.args.self.0.table.spares ≡ 32 = search rules in
    let k : length c.args.self.0.causes ≡ 32 = search rules in
    (z.0.long, rw (z.1, c.lent-d.ensures) s, rw (ap (λ (d : Drive). d.causes) (c.d.view_is ∙ c.lent-d.ensures)) k)

pub returns : goal.returns
returns c =
    let d = c.d.view_is ∙ c.lent-d.ensures in
    let g = rw c.lent-d.ensures at c.guard.ensures in
    elim c.match-guard.branch [
      | in-Err w ↦ let e = image_refused _ _ g w.in-Err.is in (rw (w.answer-is, e), rw (w.buf-is, e))
      | in-Ok+then-self w ↦ let e = image_given _ _ g w.in-Ok.is w.if-self.true in (rw (w.answer-is, e), rw (w.buf-is, e) (w.write_stored.ensures ∙ rw ((sound _ _ 532 g w.in-Ok.is).1, ap (λ (d : Drive). d.causes) d) refl))
      | in-Ok+else-self w ↦ let e = image_no_table _ _ g w.in-Ok.is w.if-self.false in (rw (w.answer-is, e), rw (w.buf-is, e))
    ]
