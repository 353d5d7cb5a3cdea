-- `codec::entries::load` meets its contract: the first k entries are stored already.
use mathlib.Core.Path.{refl}
use Prim.Native.Nat.{◌*◌}
use native.Mathlib.Numerals.{add-one}
use lib.ListN.{drop, length-set}
use Rattle.image.proofs.Layouts.{entries_length, entry_drop, entries_snoc, store_step}
use Rattle.image.specs.Layouts.{entries_from, entry_at}
use native.Mathlib.Omega.{arith}
use Rattle.codec.proofs.entries.load.Goals as goal

pub loop-k-init : goal.loop-k-init
unfolding entries_from
loop-k-init c = (refl, refl)

pub loop-k-preserved : goal.loop-k-preserved
loop-k-preserved c =
    let a = c.args in
    let k = c.loop-k.k in
    let rest = drop a.at a.s.now in (
      simp length-set c.loop-k.invariant.0,
      rw (c.loop-k.invariant.1, c.entry_at.ensures, ← entry_drop a.at a.s.now (a.w * k), add-one, entries_snoc a.w k rest)
          (store_step (entries_from a.w k rest) a.out.now k (entry_at rest (a.w * k)) (entries_length a.w k rest) (omega arith)),
    )
