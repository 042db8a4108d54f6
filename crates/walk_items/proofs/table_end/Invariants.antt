-- `walk_items::table_end` meets its contract. The loop's invariant: no end starts at a place passed. The measure is what is left.
use Rattle.walk_items.specs.Items.{NoEnding}
use lib.ListN.{length}
use Prim.Native.Nat.{◌-◌, ◌≤◌}
use Rattle.walk_items.proofs.table_end.Given as goal

abbrev pub invariant-loop-at : goal.invariant-loop-at
invariant-loop-at l = (l.first ≤ l.at) × (l.at ≤ length l.s) × NoEnding l.s l.first l.at

abbrev pub decreases-loop-at : goal.decreases-loop-at
decreases-loop-at l = length l.s - l.at
