-- `walk_header::identification` meets its contract: its parts, one after another.
use Rattle.walk_header.proofs.Entries.{identification_found}
use Rattle.walk_header.proofs.identification.Goals as goal

pub returns : goal.returns
returns c =
    let tag = c.tag-a in
    let enter = c.enter-b in
    let leaf-maybe = c.leaf_maybe-office in
    identification_found tag.ensures enter.ensures leaf-maybe.ensures c.leaf-d.ensures
    c.last_leaf-filed.ensures c.leave.ensures
