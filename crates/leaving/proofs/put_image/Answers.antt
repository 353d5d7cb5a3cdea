-- `leaving::put_image` meets its contract.
use Rattle.leaving.proofs.Buffers.{part_put}
use Rattle.leaving.proofs.put_image.Goals as goal

pub returns : goal.returns
returns c = rw (part_put c.args.buf.now, c.write_table.ensures)
