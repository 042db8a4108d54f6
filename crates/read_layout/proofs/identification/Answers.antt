-- `read_layout::identification` meets its contract: the element from its parts.
use Rattle.read_layout.proofs.Header.{identification_reads}
use Rattle.read_layout.proofs.identification.Goals as goal

pub returns : goal.returns
returns c =
    let tag = c.tag in
    let enter = c.enter-a in
    let leaf-maybe = c.leaf_maybe-b in
    identification_reads _ tag.ensures enter.ensures leaf-maybe.ensures c.leaf-c.ensures
    c.leaf_maybe-d.ensures c.leave.ensures
