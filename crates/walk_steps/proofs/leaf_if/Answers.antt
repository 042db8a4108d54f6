-- `walk_steps::leaf_if` meets its contract: the leaf, or nothing.
use Rattle.walk_steps.proofs.Elements.{leaf_absent, leaf_present}
use Rattle.walk_steps.proofs.leaf_if.Goals as goal

pub returns-then-here : goal.returns-then-here
returns-then-here c = leaf_present c.if-here.true c.leaf-next.ensures

pub returns-else-here : goal.returns-else-here
returns-else-here c = leaf_absent c.if-here.false
