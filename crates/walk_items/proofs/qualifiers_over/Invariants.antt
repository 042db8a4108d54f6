-- `walk_items::qualifiers_over` meets its contract. The loop's invariant: what is left of the list stands at `at`. The measure is what is
-- left of the text.
use Prim.Native.Nat.{◌-◌}
use lib.ListN.{length}
use Rattle.paper.specs.Layout.{child, qualifier}
use Rattle.read_steps.specs.Follow.{closing}
use Rattle.walk_steps.proofs.Loops.{Left}
use Rattle.walk_items.proofs.qualifiers_over.Given as goal

abbrev pub invariant-loop-next : goal.invariant-loop-next
invariant-loop-next l = Left (child qualifier) closing l.s l.first l.at

abbrev pub decreases-loop-next : goal.decreases-loop-next
decreases-loop-next l = length l.s - l.at
