-- `walk_header::identification_maybe` meets its contract: the identification, or nothing.
use Rattle.walk_header.proofs.Entries.{identification_absent, identification_present}
use Rattle.walk_header.proofs.identification_maybe.Goals as goal

pub returns-then-opens : goal.returns-then-opens
returns-then-opens c = identification_present c.if-opens.true c.opens.ensures c.identification.ensures

pub returns-else-opens : goal.returns-else-opens
returns-else-opens c = identification_absent c.if-opens.false c.opens.ensures
