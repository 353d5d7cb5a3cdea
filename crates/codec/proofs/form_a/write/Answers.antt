-- `codec::form_a::write` meets its contract.
use Rattle.image.specs.Images.{written_a}
use Rattle.codec.proofs.form_a.write.Goals as goal

pub returns-then-writable : goal.returns-then-writable
unfolding written_a
returns-then-writable c = rw (c.build.ensures, ← c.writable.ensures, c.if-writable.true)

pub returns-else-writable : goal.returns-else-writable
unfolding written_a
returns-else-writable c = rw (← c.writable.ensures, c.if-writable.false)
