-- `location_spans::room::spans` meets its contract.
use Rattle.location_spans.proofs.Listed.{part_answered}
use Rattle.location_spans.proofs.room.spans.Goals as goal

pub returns : goal.returns
returns c = part_answered c.bytes_of.ensures c.fill.ensures
