-- `codec::form_b::load_causes` meets its contract: the first k causes are stored already.
use mathlib.Core.Path.{refl}
use native.Mathlib.Numerals.{add-one}
use lib.ListN.{drop, replicate, length-set}
use Rattle.image.proofs.Layouts.{store_step}
use Rattle.image.proofs.ReadingB.{causes_length, causes_snoc}
use Rattle.image.specs.FormB.{causes_from}
use native.Mathlib.Omega.{arith}
use Rattle.codec.proofs.form_b.load_causes.Goals as goal

pub loop-k-init : goal.loop-k-init
unfolding causes_from
loop-k-init c = (refl, refl)

pub loop-k-preserved : goal.loop-k-preserved
loop-k-preserved c =
    let a = c.args in
    let k = c.loop-k.k in
    let rest = drop 16 a.s.now in (
      simp length-set c.loop-k.invariant.0,
      rw (c.from.ensures, c.loop-k.invariant.1, add-one, causes_snoc k a.s.now) (store_step (causes_from k rest) (replicate 32 0) k _ (causes_length k rest) (omega arith)),
    )
