-- `calls::tables::load` meets its contract: a well-formed image is found.
use Rattle.image.proofs.RoundTrip.{found_exactly}
use Rattle.calls.proofs.Loads.{found}
use Rattle.calls.proofs.tables.load.Goals as goal

pub unwrap-requires : goal.unwrap-requires
unwrap-requires c = rw (c.read_image.ensures, found_exactly c.args.bytes.now) c.requires

pub returns : goal.returns
returns c =
    let f = found c.args.bytes.now _ (rw c.read_image.ensures at c.unwrap.ensures) in
    rw f.1
