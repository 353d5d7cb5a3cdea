-- `codec::entries::load_table` meets its contract: each array holds its list, and the test is that of the lists.
use native.Mathlib.Omega.{arith}
use Rattle.image.proofs.Reading.{loaded_test}
use Rattle.codec.proofs.entries.load_table.Goals as goal

pub returns-then-is_ok : goal.returns-then-is_ok
returns-then-is_ok c =
    let a = c.args in
    rw (loaded_test a.s.now a.a c.requires.0 c.requires.1, c.load.ensures, c.load-2.ensures) (grind (arith, c.if-is_ok.true, c.is_ok.ensures, c.load.ensures, c.load-2.ensures))

pub returns : goal.returns
returns c =
    let a = c.args in
    rw (loaded_test a.s.now a.a c.requires.0 c.requires.1) (grind (arith, c.if-is_ok.false, c.is_ok.ensures, c.load.ensures, c.load-2.ensures))
