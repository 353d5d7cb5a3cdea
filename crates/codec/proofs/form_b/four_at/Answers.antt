-- `codec::form_b::four_at` meets its contract.
use mathlib.Core.Path.{◌≡◌}
use Prim.Native.Nat.{◌+◌}
use native.Mathlib.Omega.{arith}
use Rattle.image.specs.FormB.{two_at}
use Rattle.codec.proofs.form_b.four_at.Goals as goal

pub returns : goal.returns
unfolding two_at
returns c =
    let e : c.args.k + 2 + 1 ≡ c.args.k + 3 = omega arith in
    rw (c.from_be_bytes.ensures, e) (omega arith)
