-- The count, and then the sequences.
use Rattle.std.proofs.Common.{◌∙◌}
use Rattle.index_walk.proofs.Whole.{index_laid}
use Rattle.index_walk.proofs.lay_index.Goals as goal

pub shape_of-room : goal.shape_of-room
shape_of-room c =
    let lay-more = c.lay_more-count in
    c.lay_sequences.ensures.kept ∙ lay-more.ensures.kept

pub returns : goal.returns
returns c =
    let word = c.word in
    let lay-more = c.lay_more-count in
    index_laid word.ensures lay-more.ensures c.lay_sequences.ensures
