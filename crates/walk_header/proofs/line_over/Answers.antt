-- `walk_header::line_over` meets its contract: up to `>`, and the blanks.
use Rattle.walk_header.proofs.Root.{line_ends}
use Rattle.walk_header.proofs.line_over.Goals as goal

pub returns : goal.returns
returns c = line_ends c.until-a.ensures c.past-b.ensures c.blanks.ensures
