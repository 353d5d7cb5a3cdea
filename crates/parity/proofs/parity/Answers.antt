-- `parity::parity` meets its contract: the table's rule is one test, computed over the whole table. The search takes the table from the goal.
use borrow.Author.Rules.{rules}
use Rattle.logic.proofs.Tables.{table_rule}
use Rattle.parity.specs.Bits.{ones_among, parity_of}
use Rattle.parity.proofs.parity.Goals as goal

pub returns : goal.returns
unfolding ones_among
returns c = search (rules, table_rule parity_of)
