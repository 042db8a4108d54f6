-- `walk_header::header` meets its contract: its parts, one after another.
use Rattle.walk_header.proofs.Root.{header_found}
use Rattle.walk_header.proofs.header.Goals as goal

pub returns : goal.returns
returns c =
    let line-over = c.line_over-a in
    let line-over2 = c.line_over-b in
    header_found line-over.ensures line-over2.ensures c.tag-c.ensures
    c.attributes-produced.ensures c.enter-e.ensures c.parties-applicant.ensures
