-- `walk_items::table` meets its contract: the table, or nothing.
use Rattle.walk_items.proofs.Sequences.{table_absent, table_present}
use Rattle.walk_items.proofs.table.Goals as goal

pub returns-then-opens : goal.returns-then-opens
returns-then-opens c =
    let opens = c.opens in
    let if1 = c.if-opens in
    table_present if1.true opens.ensures c.tag-a.ensures
    c.enter-first.ensures c.table_end-b.ensures c.leave.ensures

pub returns-else-opens : goal.returns-else-opens
returns-else-opens c = table_absent c.if-opens.false c.opens.ensures
