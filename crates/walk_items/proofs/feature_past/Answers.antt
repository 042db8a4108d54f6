-- `walk_items::feature_past` meets its contract.
use Rattle.walk_items.proofs.Sequences.{passes}
use Rattle.walk_items.proofs.feature_past.Goals as goal

pub returns : goal.returns
returns c = passes c.qualifiers_over.ensures c.feature_end.ensures
