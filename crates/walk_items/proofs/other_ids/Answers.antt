-- `walk_items::other_ids` meets its contract.
use Rattle.walk_items.proofs.Sequences.{ids_found}
use Rattle.walk_items.proofs.other_ids.Goals as goal

pub returns : goal.returns
returns c = ids_found c.opens-present.ensures c.children-long.ensures c.leaf_maybe-next.ensures c.shut.ensures
