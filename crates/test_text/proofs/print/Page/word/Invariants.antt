use lib.ListN.{take}
use Rattle.test_text.specs.Printing.{Puts}
use Rattle.test_text.proofs.print.Page.word.Given as goal

abbrev pub invariant-loop-ch : goal.invariant-loop-ch
invariant-loop-ch l = Puts (take l.ch-index l.word) l.initial.self l.self
