-- `codec::entries::widened` meets its contract.
use borrow.Author.Tests.{eq-eqb, ne_eqb}
use native.Mathlib.Omega.{arith}
use Rattle.image.specs.Layouts.{wide}
use Rattle.codec.proofs.entries.widened.Goals as goal

pub returns-then-x-eq-DEAD : goal.returns-then-x-eq-DEAD
unfolding wide
returns-then-x-eq-DEAD c = (rw (eq-eqb _ _ c.if-x-eq-DEAD.true), omega arith)

pub returns : goal.returns
unfolding wide
returns c = (rw (c.from.ensures, ne_eqb _ _ c.if-x-eq-DEAD.false), omega (arith, c.from.ensures))
