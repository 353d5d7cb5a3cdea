-- `codec::form_b::is_framed` meets its contract, test by test.
use mathlib.Core.Path.{◌≡◌}
use Prim.Native.Nat.{◌+◌, ◌-◌, ◌*◌}
use native.Mathlib.Omega.{arith}
use Rattle.image.specs.FormB.{framed_b}
use Rattle.codec.proofs.form_b.is_framed.Goals as goal

pub returns : goal.returns
unfolding framed_b
returns c =
    let a = c.args in
    let e : 530 - (16 + 4 * a.n + 3 * a.m) ≡ 514 - 4 * a.n - 3 * a.m = omega arith in
    rw (c.all_are.ensures, c.two_at-2.ensures.0, c.two_at.ensures.0, e)
