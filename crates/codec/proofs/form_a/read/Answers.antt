-- `codec::form_a::read` meets its contract: each test in turn decides.
use native.Mathlib.Omega.{arith}
use Rattle.image.specs.FormA.{formed_a}
use Rattle.image.specs.Images.{loaded, read_a}
use Rattle.codec.proofs.form_a.read.Goals.{then-not-counts_fit-via-then-not-counts_fit, then-not-counts_fit-via-else-not-counts_fit+then-not-is_framed}
use Rattle.codec.proofs.form_a.read.Goals as goal

pub returns-then-not-counts_fit : goal.returns-then-not-counts_fit
unfolding read_a formed_a
returns-then-not-counts_fit c =
    elim c.then-not-counts_fit.branch [
      | then-not-counts_fit-via-then-not-counts_fit w ↦ grind (arith, c.layout-a.ensures, c.counts_fit.ensures, w.if-not-counts_fit.true)
      | then-not-counts_fit-via-else-not-counts_fit+then-not-is_framed w ↦ grind (arith, c.layout-a.ensures, w.is_framed.ensures, w.if-not-is_framed.true)
    ]

pub returns-in_default : goal.returns-in_default
unfolding read_a formed_a loaded
returns-in_default c = grind (arith, c.layout-a.ensures, c.load_table.ensures, c.in_default.is)

pub returns : goal.returns
unfolding read_a formed_a loaded
returns c =
    grind (arith, c.layout-a.ensures, c.counts_fit.ensures, c.if-not-counts_fit.false, c.is_framed.ensures, c.if-not-is_framed.false, c.load_table.ensures, c.in-Some.is)
