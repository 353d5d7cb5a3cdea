-- `acting::act` meets its contract: a number that passed the four tests is a block's.
use mathlib.Core.Path.{sym}
use borrow.Author.Tests.{ltb-true}
use Rattle.records.proofs.Numbers.{block_left}
use Rattle.acting.proofs.act.Goals as goal

pub first_read-requires : goal.first_read-requires
first_read-requires c =
    let left = block_left _ _ (sym c.if-no_number.ensures) (sym c.if-asks_buffer.ensures) (sym c.if-asks_table.ensures) (sym c.if-asks_health.ensures) in
    ltb-true _ 9728 left

pub write-requires : goal.write-requires
write-requires c =
    let left = block_left _ _ (sym c.if-no_number.ensures) (sym c.if-asks_buffer.ensures) (sym c.if-asks_table.ensures) (sym c.if-asks_health.ensures) in
    ltb-true _ 9728 left
