-- `codec::form_b::sum_fits` meets its contract.
use mathlib.Core.Path.{sym}
use lib.Seq.{length-take-le}
use native.Mathlib.Omega.{arith}
use Rattle.image.specs.FormB.{sum_fits}
use Rattle.codec.proofs.form_b.sum_fits.Goals as goal

pub slice_bounds-sum-end : goal.slice_bounds-sum-end
slice_bounds-sum-end c = sym (length-take-le 530 c.args.s.now (omega arith))

pub returns : goal.returns
unfolding sum_fits
returns c = rw (c.two_at.ensures.0, c.sum-t.ensures)
