-- `walk_steps::leaf` meets its contract: a tag, its text and the blanks after it.
use Rattle.walk_steps.proofs.Leaves.{leaf_found}
use Rattle.walk_steps.proofs.leaf.Goals as goal

pub returns : goal.returns
returns c = leaf_found c.tag.ensures c.content-next.ensures c.blanks.ensures
