-- `walk_items::sequence` meets its contract: its parts, one after another.
use Rattle.walk_items.proofs.Sequences.{sequence_found}
use Rattle.walk_items.proofs.sequence.Goals as goal

pub returns : goal.returns
returns c =
    let tag = c.tag-a in
    let attribute = c.attribute-b in
    let enter = c.enter-c in
    let tag2 = c.tag-d in
    let enter2 = c.enter-e in
    let leaf = c.leaf-f in
    let leaf2 = c.leaf-g in
    let leaf3 = c.leaf-h in
    let other-ids = c.other_ids-ids in
    let table = c.table-table in
    let leaf4 = c.leaf-k in
    sequence_found tag.ensures attribute.ensures enter.ensures tag2.ensures enter2.ensures leaf.ensures leaf2.ensures
    leaf3.ensures other-ids.ensures table.ensures leaf4.ensures c.leave-l.ensures c.leave.ensures
