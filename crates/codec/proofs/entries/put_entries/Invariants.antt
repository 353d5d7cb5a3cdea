use mathlib.Core.Path.{◌≡◌}
use Prim.Native.Nat.{◌≤◌, ◌*◌}
use lib.ListN.{length, take}
use Rattle.buffer.specs.Runs.{over, sum}
use Rattle.image.specs.Layouts.{triples}
use Rattle.codec.proofs.entries.put_entries.Given as goal

abbrev pub invariant-loop-k : goal.invariant-loop-k
invariant-loop-k l = (length l.out ≡ length l.initial.out) × (l.out ≡ over l.at (triples (take l.k l.list)) l.initial.out) × (l.t ≡ sum (triples (take l.k l.list))) × (l.t ≤ 765 * l.k)
