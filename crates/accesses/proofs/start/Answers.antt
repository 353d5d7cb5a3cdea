-- `accesses::start` meets its contract: the table exactly for a well-formed image.
use native.Mathlib.Omega.{arith}
use Rattle.image.specs.Images.{read_of}
use Rattle.drive.specs.Access.{start_answered}
use Rattle.accesses.proofs.start.Goals as goal

pub returns-then-a-eq3 : goal.returns-then-a-eq3
unfolding start_answered
returns-then-a-eq3 c = grind (arith, c.give_up.ensures, c.if-a-eq3.true)

pub returns-then-a-ne0 : goal.returns-then-a-ne0
unfolding start_answered
returns-then-a-ne0 c = grind (arith, c.count_try.ensures, c.if-a-ne0.true, c.if-a-eq3.false)

pub returns-in_default : goal.returns-in_default
unfolding start_answered read_of
returns-in_default c = grind (arith, c.count_try-in_default.ensures, c.if-a-ne0.false, c.read_image.ensures, c.in_default.is)

pub returns : goal.returns
unfolding start_answered read_of
returns c = grind (arith, c.with_table.ensures, c.if-a-ne0.false, c.read_image.ensures, c.in-Ok.is)
