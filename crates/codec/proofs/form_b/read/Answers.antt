-- `codec::form_b::read` meets its contract: each test in turn decides.
use native.Mathlib.Omega.{arith}
use Rattle.image.specs.FormB.{fields_fit, formed_b}
use Rattle.image.specs.Images.{loaded, read_b}
use Rattle.image.proofs.Reading.{causes_in_lem, causes_of_lem}
use Rattle.codec.proofs.form_b.read.Goals.{then-not-counts_fit-via-then-not-counts_fit, then-not-counts_fit-via-else-not-counts_fit+then-not-is_framed}
use Rattle.codec.proofs.form_b.read.Goals as goal

pub returns-then-not-sum_fits : goal.returns-then-not-sum_fits
unfolding read_b formed_b
returns-then-not-sum_fits c = grind (arith, c.sum_fits.ensures, c.if-not-sum_fits.true)

pub returns-then-not-counts_fit : goal.returns-then-not-counts_fit
unfolding read_b formed_b fields_fit
returns-then-not-counts_fit c =
    let s = c.sum_fits.ensures in
    let a = c.layout-a.ensures in
    elim c.then-not-counts_fit.branch [
      | then-not-counts_fit-via-then-not-counts_fit w ↦ grind (arith, s, c.if-not-sum_fits.false, a, c.counts_fit.ensures, w.if-not-counts_fit.true)
      | then-not-counts_fit-via-else-not-counts_fit+then-not-is_framed w ↦ grind (arith, s, c.if-not-sum_fits.false, a, w.is_framed.ensures, w.if-not-is_framed.true)
    ]

pub returns-then-not-causes_ok : goal.returns-then-not-causes_ok
unfolding read_b formed_b fields_fit
returns-then-not-causes_ok c =
    let s = c.args.s.now in
    grind (
      arith,
      c.sum_fits.ensures,
      c.if-not-sum_fits.false,
      c.layout-a.ensures,
      c.load_causes-causes.ensures,
      causes_in_lem s,
      causes_of_lem s,
      c.causes_ok.ensures,
      c.if-not-causes_ok.true,
    )

pub returns-in_default : goal.returns-in_default
unfolding read_b formed_b fields_fit loaded
returns-in_default c = grind (arith, c.sum_fits.ensures, c.if-not-sum_fits.false, c.layout-a.ensures, c.load_table.ensures, c.in_default.is)

pub returns : goal.returns
unfolding read_b formed_b fields_fit loaded
returns c =
    let s = c.args.s.now in
    grind (
      arith,
      c.sum_fits.ensures,
      c.if-not-sum_fits.false,
      c.layout-a.ensures,
      c.counts_fit.ensures,
      c.if-not-counts_fit.false,
      c.is_framed.ensures,
      c.if-not-is_framed.false,
      c.load_causes-causes.ensures,
      causes_in_lem s,
      causes_of_lem s,
      c.causes_ok.ensures,
      c.if-not-causes_ok.false,
      c.load_table.ensures,
      c.in-Some.is,
      c.four_at.ensures,
    )
