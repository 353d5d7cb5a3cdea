use mathlib.Core.Path.{◌≡◌}
use Prim.Native.Nat.{◌≤◌, ◌*◌}
use lib.ListN.{length, take}
use Rattle.buffer.specs.Runs.{over, sum}
use Rattle.image.specs.FormB.{quads}
use Rattle.codec.proofs.form_b.put_spares.Given as goal

abbrev pub invariant-loop-k : goal.invariant-loop-k
invariant-loop-k l = (length l.out ≡ length l.initial.out) × (l.out ≡ over l.at (quads (take l.k l.list) l.causes) l.initial.out) × (l.t ≡ sum (quads (take l.k l.list) l.causes)) × (l.t ≤ 1020 * l.k)
