-- `codec::form_b::put_sum` meets its contract.
use Rattle.image.specs.FormB.{two_bytes}
use Rattle.codec.proofs.form_b.put_sum.Goals as goal

pub returns : goal.returns
unfolding two_bytes
returns c = rw (c.put.ensures, c.to_be_bytes.ensures)
