-- `walk_header::parties` meets its contract: its parts, one after another.
use Rattle.walk_header.proofs.Root.{parties_found}
use Rattle.walk_header.proofs.parties.Goals as goal

pub returns : goal.returns
returns c =
    let heading = c.heading-a in
    let identification-maybe = c.identification_maybe-b in
    parties_found heading.ensures identification-maybe.ensures c.party_maybe-applicant.ensures
    c.party_maybe-inventor.ensures
