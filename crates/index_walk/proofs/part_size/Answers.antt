-- Its end less its start, where it has one.
use Rattle.index_walk.proofs.Numbers.{size_is}
use Rattle.index_walk.proofs.part_size.Goals as goal

pub returns : goal.returns
returns c = size_is c.saturating_sub.ensures c.word.ensures
