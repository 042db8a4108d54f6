-- `walk_steps::last_leaf` meets its contract: it stands before an end tag.
use Rattle.walk_steps.proofs.Elements.{leaf_last}
use Rattle.walk_steps.proofs.last_leaf.Goals as goal

pub returns : goal.returns
returns c = leaf_last c.child_here.ensures c.leaf_if.ensures
