-- `walk_items::feature` meets its contract: its parts, one after another.
use Rattle.walk_items.proofs.Features.{feature_found}
use Rattle.walk_items.proofs.feature.Goals as goal

pub returns : goal.returns
returns c =
    let tag = c.tag-a in
    let enter = c.enter-b in
    let leaf = c.leaf-c in
    feature_found tag.ensures enter.ensures leaf.ensures c.leaf-d.ensures c.feature_rest.ensures
