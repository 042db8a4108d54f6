-- `walk_header::spoken` meets its contract: the tag, the attribute, the text and the blanks.
use Rattle.walk_header.proofs.Entries.{spoken_found}
use Rattle.walk_header.proofs.spoken.Goals as goal

pub returns : goal.returns
returns c =
    let tag = c.tag-a in
    spoken_found tag.ensures c.attribute-b.ensures c.content-c.ensures c.blanks.ensures
