-- `codec::form_b::write` meets its contract.
use native.Mathlib.Omega.{arith}
use Rattle.image.specs.Images.{written_b}
use Rattle.codec.proofs.form_b.write.Goals as goal

pub returns-then-causes-spares : goal.returns-then-causes-spares
unfolding written_b
returns-then-causes-spares c = grind (arith, c.build.ensures, c.writable.ensures, c.if-writable.true, c.if-causes-spares.true)

pub returns-else-writable : goal.returns-else-writable
unfolding written_b
returns-else-writable c = grind (arith, c.writable.ensures, c.else-writable.either)
