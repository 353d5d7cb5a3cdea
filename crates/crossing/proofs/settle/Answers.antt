-- `crossing::settle` meets its contract.
use mathlib.Core.Path.{sym, ◌∙◌}
use native.Mathlib.Omega.{arith}
use Rattle.crossing.proofs.Crossed.{written, change_packed}
use borrow.Author.Rules.{rules}
use Rattle.crossing.proofs.settle.Goals as goal

pub returns : goal.returns
returns c =
    let a = c.args in
    let w = a.w.now in
    let e = c.keep-reply.ensures in
    let n = c.if-is_refused.ensures in (
      e.0,
      c.alter.ensures
          ∙ change_packed w (search rules) (omega (arith, c.fits-w 23)) (omega (arith, c.fits-w 24)) a.x.state a.x.change a.bytes.now _ (e.1 ∙ sym (written a.x.answer w _ n))
          ∙ written a.x.answer w _ n,
    )
