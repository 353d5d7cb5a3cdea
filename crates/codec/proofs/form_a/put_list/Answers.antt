-- `codec::form_a::put_list` meets its contract: the entries, then their mark.
use Rattle.image.proofs.Writing.{list_written}
use Rattle.codec.proofs.form_a.put_list.Goals as goal

pub returns : goal.returns
returns c =
    let a = c.args in
    rw (c.fill.ensures, c.put_entries.ensures.0) (list_written a.at a.list.now a.out.now c.requires.0)
