-- `codec::form_b::build` meets its contract: head, both lists, the zeros and the sum, each written after the last.
use Rattle.image.proofs.WritingB.{built}
use Rattle.codec.proofs.form_b.build.Goals as goal

pub returns : goal.returns
returns c =
    let last = c.put_sum.ensures in
    let zeros = c.fill.ensures in
    let bads = c.put_entries-s3.ensures in
    let spares = c.put_spares-s2.ensures in
    let top = c.put_head-s1.ensures in
    let a = c.args in
    rw (last, zeros, bads.0, spares.0, top.0, bads.1, spares.1, top.1)
    (built a.run a.spares.now a.causes.now a.bads.now a.out.now c.requires.0 c.requires.1 c.requires.3)
