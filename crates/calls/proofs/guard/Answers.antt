-- `calls::guard` meets its contract: a table that passes has few spares and few bad blocks.
use mathlib.Core.Path.{◌≡◌}
use mathlib.Core.Bool.{true}
use borrow.Author.Rules.{rules}
use Rattle.table.specs.Tables.{table_ok}
use Rattle.table.proofs.Keeps.{passes}
use Rattle.calls.proofs.guard.Goals as goal

pub invariant_of-result : goal.invariant_of-result
invariant_of-result c =
    let h : table_ok c.d.inside.table ≡ true = search rules in
    let p = passes _ h in
    (p.few_spares, p.few_bads)
