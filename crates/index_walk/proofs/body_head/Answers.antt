-- Three numbers.
use Rattle.index_walk.proofs.Numbers.{head_is}
use Rattle.index_walk.proofs.body_head.Goals as goal

pub returns : goal.returns
returns c = head_is c.word.ensures c.part_size.ensures
