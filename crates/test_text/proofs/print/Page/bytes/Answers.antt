-- `test_text::print::Page::bytes` meets its contract: what is left to lay makes up the whole.
use Rattle.std.proofs.Common.{rules, tests}
use Rattle.std.proofs.lemmas.List.Sorted.{answers_always}
use lib.Dec.{eqb}
use lib.ListN.{get_or, length}
use Rattle.test_text.specs.Printing.{run_text, bytes_text, laid}
use Rattle.test_text.proofs.Laying.{passed}
use Rattle.test_text.proofs.Runs.{no_chunk, chunk_text}
use Rattle.test_text.proofs.print.Page.bytes.Goals as goal

pub loop-run-preserved : goal.loop-run-preserved
loop-run-preserved c =
    let run = c.in-Some.run'.now in
    let rest = c.next.new.self.rest.now in
    let h = c.in-Some.ensures.steps in
    let k = (h.2 eqb (answers_always _ _ _ (λ f a r f' q. search (rules, tests)))).1 in
    let e = chunk_text c.loop-run.run-iterator.rest.now run rest h.0 h.1 k.0 k.1 in
    (passed (run_text (get_or run 0 0) (length run)) (bytes_text rest) _ (rw e at c.loop-run.invariant.0) c.run.ensures.0, cc)

pub returns : goal.returns
unfolding laid
returns c =
    let e = no_chunk c.loop-run.run-iterator.rest.now c.in-None.ensures.steps.0 in
    (rw e at c.loop-run.invariant.0, cc)
