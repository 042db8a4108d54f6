-- `walk_header::party_maybe` meets its contract: the name and its Latin form, or nothing.
use Rattle.walk_header.proofs.Entries.{party_absent, party_present}
use Rattle.walk_header.proofs.party_maybe.Goals as goal

pub returns-then-opens : goal.returns-then-opens
returns-then-opens c =
    party_present c.if-opens.true c.opens.ensures
    c.spoken-a.ensures c.leaf_maybe.ensures

pub returns-else-opens : goal.returns-else-opens
returns-else-opens c = party_absent c.if-opens.false c.opens.ensures
