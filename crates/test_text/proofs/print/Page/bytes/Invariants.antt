use mathlib.Core.Path.{◌≡◌}
use Rattle.test_text.specs.Printing.{laid, out_of, bytes_text}
use Rattle.test_text.proofs.print.Page.bytes.Given as goal

abbrev pub invariant-loop-run : goal.invariant-loop-run
invariant-loop-run l =
    (laid (bytes_text l.run-iterator.rest.now) (out_of l.self) ≡ laid (bytes_text l.s) (out_of l.initial.self))
    × (l.self.out.ghost_name ≡ l.initial.self.out.ghost_name)
