-- `codec::form_b::put_spare` meets its contract.
use Rattle.image.specs.Layouts.{triple}
use Rattle.image.specs.FormB.{quad}
use native.Mathlib.Omega.{arith}
use Rattle.codec.proofs.form_b.put_spare.Goals as goal

pub returns : goal.returns
unfolding quad triple
returns c =
    let p = rw c.to_be_bytes.ensures at c.put_summed.ensures in
    let e = c.widened.ensures.0 in
    (rw (p.0, e), rw (p.1, e), omega (arith, p.2))
