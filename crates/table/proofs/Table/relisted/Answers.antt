-- `Table::relisted` meets its contract: where the block has no entry, its place is the next unused one, which is stored last.
use native.Mathlib.Omega.{arith}
use Rattle.std.proofs.lemmas.List.{set-set}
use Rattle.lists.proofs.Laws.{found, not_found_in}
use Rattle.table.proofs.Table.relisted.Goals.{in-Some, in_default}
use Rattle.table.proofs.Table.relisted.Goals as goal

pub returns : goal.returns
returns c =
    elim c.match-find.branch [
      | in-Some w ↦
          let k = found _ _ _ (rw c.cut.ensures at w.in-Some.ensures) in rw (w.out-is, k.1)
      | in_default w ↦
          let n = not_found_in _ _ _ (omega arith) (rw c.cut.ensures at w.in_default.ensures) in rw (w.out-is, n, set-set)
    ]
