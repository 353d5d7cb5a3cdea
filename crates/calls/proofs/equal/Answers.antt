-- `calls::equal` meets its contract.
use mathlib.Core.Path.{◌≡◌}
use borrow.Author.Rules.{rules}
use Rattle.std.specs.Prelude.{min, length}
use Rattle.calls.proofs.Buffers.{as_compared}
use Rattle.calls.proofs.equal.Goals as goal

pub returns-then-verifies : goal.returns-then-verifies
returns-then-verifies c =
    let u = c.args.buf.now in
    let e : c.min.result ≡ min 4 (length u) = search rules in
    rw (c.same_bytes.ensures, as_compared u c.min.result e, ← c.if-verifies.ensures)
