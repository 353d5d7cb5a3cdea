-- `codec::read_image` meets its contract: the length, then the form decides.
use native.Mathlib.Omega.{arith}
use Rattle.image.specs.Images.{read_a, read_b, read_of, well_formed, fault_of, table_of, run_of, causes_of}
use Rattle.codec.proofs.read_image.Goals as goal

pub returns-then-s-ne532 : goal.returns-then-s-ne532
unfolding read_of well_formed fault_of
returns-then-s-ne532 c = grind (arith, c.if-s-ne532.true)

pub returns-then-is_form_b : goal.returns-then-is_form_b
unfolding read_of read_b well_formed fault_of table_of run_of causes_of
returns-then-is_form_b c = grind (arith, c.read.ensures, c.if-s-ne532.false, c.is_form_b.ensures, c.if-is_form_b.true)

pub returns : goal.returns
unfolding read_of read_a well_formed fault_of table_of run_of causes_of
returns c = grind (arith, c.read-2.ensures, c.if-s-ne532.false, c.is_form_b.ensures, c.if-is_form_b.false)
