-- `codec::entries::put_entries` meets its contract: the first k entries are written already, and t is the sum of their bytes.
use mathlib.Core.Path.{◌≡◌, refl, sym, ap, ◌∙◌}
use Prim.Native.Nat.{◌≤◌, ◌+◌, ◌*◌}
use native.Mathlib.Numerals.{add-one}
use lib.ListN.{length, take}
use lib.Seq.{length-take-le}
use Rattle.buffer.specs.Runs.{over, sum}
use Rattle.buffer.proofs.Over.{over_none, over_length}
use Rattle.image.proofs.Layouts.{triples_length, written_step, summed_step}
use Rattle.image.specs.Layouts.{triples}
use native.Mathlib.Omega.{arith}
use Rattle.codec.proofs.entries.put_entries.Goals as goal

pub loop-k-init : goal.loop-k-init
unfolding triples sum
loop-k-init c = (refl, sym (over_none _ _), refl, omega arith)

pub loop-k-preserved : goal.loop-k-preserved
loop-k-preserved c =
    let a = c.args in
    let k = c.loop-k.k in
    let p = c.put_entry-t.ensures in
    let h : (a.at + 3 * length a.list.now ≤ length a.out.now) = c.requires.0 in
    let e : c.put_entry-t.new.out ≡ over a.at (triples (take (k + 1) a.list.now)) a.out.now =
    rw (p.0, c.loop-k.invariant.1, add-one) (written_step a.at a.list.now a.out.now k (omega arith) (omega (arith, h))) in
    let t = triples_length (take (k + 1) a.list.now) in
    let n = length-take-le (k + 1) a.list.now (omega arith) in (
      ap length e ∙ over_length a.at (triples (take (k + 1) a.list.now)) a.out.now (omega (arith, t, n, h)),
      e,
      rw (p.1, c.loop-k.invariant.2) (summed_step a.list.now k (omega arith)),
      omega (arith, p.2),
    )
