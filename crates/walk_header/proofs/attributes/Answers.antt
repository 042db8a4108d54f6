-- `walk_header::attributes` meets its contract: the attributes, one after another.
use Rattle.walk_header.proofs.Entries.{attributes_found}
use Rattle.walk_header.proofs.attributes.Goals as goal

pub returns : goal.returns
returns c =
    let attribute = c.attribute-a in
    let attribute-maybe = c.attribute_maybe-b in
    attributes_found attribute.ensures attribute-maybe.ensures c.attribute_maybe-c.ensures
    c.attribute_maybe-d.ensures c.attribute_maybe-produced.ensures
