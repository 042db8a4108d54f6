-- Four numbers.
use Rattle.index_walk.proofs.Numbers.{entry_is}
use Rattle.index_walk.proofs.feature_entry.Goals as goal

pub returns : goal.returns
returns c =
    entry_is c.word.ensures c.part_size.ensures c.word-2.ensures
    c.part_size-2.ensures
