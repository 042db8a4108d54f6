-- `walk_steps::tag` meets its contract.
use Rattle.walk_steps.proofs.Leaves.{tag_ends}
use Rattle.walk_steps.proofs.tag.Goals as goal

pub returns : goal.returns
returns c = tag_ends c.past.ensures c.past-2.ensures
