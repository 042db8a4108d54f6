-- `walk_steps::leaf_maybe` meets its contract: whether its tag stands here tells it from all that may follow.
use Rattle.walk_steps.proofs.Elements.{leaf_before}
use Rattle.walk_steps.proofs.leaf_maybe.Goals as goal

pub returns : goal.returns
returns c = leaf_before c.opens.ensures c.leaf_if.ensures
