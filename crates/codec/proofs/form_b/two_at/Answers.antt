-- `codec::form_b::two_at` meets its contract.
use native.Mathlib.Omega.{arith}
use Rattle.image.specs.FormB.{two_at}
use Rattle.codec.proofs.form_b.two_at.Goals as goal

pub returns : goal.returns
unfolding two_at
returns c = (rw (c.from.ensures, c.from_be_bytes.ensures), omega (arith, c.from.ensures))
