-- `codec::form_a::build` meets its contract: head, both lists and the zeros, each written after the last.
use Rattle.image.proofs.Writing.{built}
use Rattle.codec.proofs.form_a.build.Goals as goal

pub returns : goal.returns
returns c =
    let a = c.args in
    rw (c.fill.ensures, c.put_list-2.ensures, c.put_list.ensures, c.put_head.ensures)
    (built a.spares.now a.bads.now a.out.now c.requires.0 c.requires.1 c.requires.2)
