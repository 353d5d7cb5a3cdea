-- `leaving::write_stored` meets its contract.
use mathlib.Core.Path.{◌≡◌, ap}
use lib.ListN.{length}
use Rattle.table.specs.declared.Table.{Table}
use Rattle.leaving.proofs.Buffers.{stored_whole}
use Rattle.leaving.proofs.write_stored.Goals as goal

pub returns : goal.returns
returns c =
    let a = c.args in
    let r = c.requires in
    let t = c.t.inside.lent.now in
    let s : length t.spares ≡ 32 = rw c.t.view_is r.1 in
    rw (c.write.ensures, c.spare_list.ensures, c.cut.ensures, c.bad_list.ensures, ap (λ (t : Table). t.nspares) c.lists.view_is, ← c.t.view_is)
    (stored_whole t a.out.now c.t.invariant.0 c.t.invariant.1 r.0 a.run a.causes.now s r.2)
