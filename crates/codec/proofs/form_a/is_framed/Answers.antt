-- `codec::form_a::is_framed` meets its contract, test by test.
use Rattle.image.specs.FormA.{framed_a}
use Rattle.codec.proofs.form_a.is_framed.Goals as goal

pub returns : goal.returns
unfolding framed_a
returns c =
    rw (c.ends_in_zeros.ensures, c.is_mark-2.ensures, c.is_mark.ensures, c.has_header.ensures)
