-- `walk_header::heading` meets its contract: the identification, then the file reference.
use Rattle.walk_header.proofs.Root.{heading_found}
use Rattle.walk_header.proofs.heading.Goals as goal

pub returns : goal.returns
returns c = heading_found c.identification_maybe-a.ensures c.leaf_maybe.ensures
