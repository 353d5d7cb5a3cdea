-- `codec::form_b::put_head` meets its contract.
use native.Mathlib.Omega.{arith}
use Rattle.image.proofs.WritingB.{head_bytes_lem}
use Rattle.codec.proofs.form_b.put_head.Goals as goal

pub returns : goal.returns
returns c =
    let p = rw c.to_be_bytes.ensures at c.put_summed.ensures in
    let e = head_bytes_lem c.args.run c.args.n c.args.m c.requires.1 c.requires.2 in
    (rw e p.0, rw e p.1, omega (arith, p.2))
