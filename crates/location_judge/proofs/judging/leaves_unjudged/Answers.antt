-- `location_judge::judging::leaves_unjudged` meets its contract.
use Rattle.location_judge.proofs.Listed.{part_leaves}
use Rattle.location_judge.proofs.judging.leaves_unjudged.Goals as goal

pub returns : goal.returns
returns c = part_leaves c.bytes_of.ensures c.unjudged.ensures
