-- `walk_items::qualifier` meets its contract: its parts, one after another.
use Rattle.walk_items.proofs.Features.{qualifier_found}
use Rattle.walk_items.proofs.qualifier.Goals as goal

pub returns : goal.returns
returns c =
    let tag = c.tag-a in
    let enter = c.enter-b in
    let leaf = c.leaf-c in
    qualifier_found tag.ensures enter.ensures leaf.ensures c.last_leaf-value.ensures c.leave.ensures
