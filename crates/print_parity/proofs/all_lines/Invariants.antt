use mathlib.Core.Path.{◌≡◌}
use Rattle.buffer.specs.Runs.{over}
use Rattle.print_parity.specs.Lines.{lines}
use Rattle.print_parity.proofs.all_lines.Given as goal

abbrev pub invariant-loop-v : goal.invariant-loop-v
invariant-loop-v l = l.out ≡ over 0 (lines l.v) l.initial.out
