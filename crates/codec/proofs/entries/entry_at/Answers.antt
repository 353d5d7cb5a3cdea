-- `codec::entries::entry_at` meets its contract: three bytes, the highest first.
use mathlib.Core.Path.{ap}
use native.Mathlib.Omega.{arith}
use Rattle.image.specs.Layouts.{narrow, entry_at}
use Rattle.codec.proofs.entries.entry_at.Goals as goal

pub returns : goal.returns
unfolding entry_at
returns c = rw (c.narrowed.ensures, c.from_be_bytes.ensures) (ap narrow (omega arith))
