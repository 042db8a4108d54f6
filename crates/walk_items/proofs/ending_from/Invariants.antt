-- `walk_items::ending_from` meets its contract. The loop's invariant: no end starts at a place passed.
use Rattle.walk_items.specs.Items.{NoEnding}
use Rattle.walk_items.proofs.ending_from.Given as goal

abbrev pub invariant-loop-i : goal.invariant-loop-i
invariant-loop-i l = NoEnding l.s l.at l.i
