-- `leaving::write_table` meets its contract.
use Rattle.leaving.proofs.Buffers.{image_whole}
use Rattle.leaving.proofs.write_table.Goals as goal

pub returns : goal.returns
returns c =
    let t = c.t.inside.lent.now in
    rw (c.write.ensures, c.spare_list.ensures, c.bad_list.ensures, ← c.t.view_is) (image_whole t c.args.out.now c.t.invariant.0 c.t.invariant.1 c.requires)
