-- `codec::form_a::put_head` meets its contract: the counts after the header.
use mathlib.Core.Path.{refl}
use mathlib.Core.List.{[], ◌∷◌}
use native.Mathlib.Omega.{arith}
use Rattle.buffer.proofs.Over.{over_over}
use Rattle.image.specs.FormA.{header}
use Rattle.codec.proofs.form_a.put_head.Goals as goal

pub returns : goal.returns
returns c =
    rw (c.put-2.ensures, c.put.ensures)
    (over_over 0 header (c.args.n ∷ c.args.m ∷ []) c.args.out.now 24 refl (omega (arith, c.requires.0)))
