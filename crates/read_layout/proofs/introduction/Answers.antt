-- `read_layout::introduction` meets its contract: its parts one after another.
use Rattle.read_layout.proofs.Header.{parties_reads}
use Rattle.read_layout.proofs.introduction.Goals as goal

pub returns : goal.returns
returns c =
    let heading = c.heading-a in
    let identification-maybe = c.identification_maybe-b in
    parties_reads heading.ensures identification-maybe.ensures c.party_maybe-c.ensures
    c.party_maybe.ensures
