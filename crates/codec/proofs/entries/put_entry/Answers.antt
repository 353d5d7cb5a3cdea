-- `codec::entries::put_entry` meets its contract.
use Rattle.image.specs.Layouts.{triple}
use native.Mathlib.Omega.{arith}
use Rattle.codec.proofs.entries.put_entry.Goals as goal

pub returns : goal.returns
unfolding triple
returns c =
    let p = rw c.to_be_bytes.ensures at c.put_summed.ensures in
    let e = c.widened.ensures.0 in
    (rw (p.0, e), rw (p.1, e), omega (arith, p.2))
