-- `codec::form_b::put_spares` meets its contract: the first k entries are written already, and t is the sum of their bytes.
use mathlib.Core.Path.{◌≡◌, refl, sym, ap, ◌∙◌}
use Prim.Native.Nat.{◌≤◌, ◌+◌, ◌*◌}
use lib.ListN.{length, take}
use lib.Seq.{length-take-le}
use Rattle.buffer.specs.Runs.{over, sum}
use Rattle.buffer.proofs.Over.{over_none, over_length}
use Rattle.image.proofs.WritingB.{quads_length, spare_step, spare_summed}
use Rattle.image.specs.FormB.{quads}
use native.Mathlib.Omega.{arith}
use Rattle.codec.proofs.form_b.put_spares.Goals as goal

pub loop-k-init : goal.loop-k-init
unfolding quads sum
loop-k-init c = (refl, sym (over_none _ _), refl, omega arith)

pub loop-k-preserved : goal.loop-k-preserved
loop-k-preserved c =
    let a = c.args in
    let k = c.loop-k.k in
    let p = c.put_spare-t.ensures in
    let l = a.list.now in
    let cs = a.causes.now in
    let h : (a.at + 4 * length l ≤ length a.out.now) = c.requires.0 in
    let e : c.put_spare-t.new.out ≡ over a.at (quads (take (k + 1) l) cs) a.out.now =
    rw (p.0, c.loop-k.invariant.1) (spare_step a.at l cs a.out.now k (omega arith) (omega (arith, h))) in
    let t = quads_length (take (k + 1) l) cs in
    let n = length-take-le (k + 1) l (omega arith) in (
      ap length e ∙ over_length a.at (quads (take (k + 1) l) cs) a.out.now (omega (arith, t, n, h)),
      e,
      rw (p.1, c.loop-k.invariant.2) (spare_summed l cs k (omega arith)),
      omega (arith, p.2),
    )
