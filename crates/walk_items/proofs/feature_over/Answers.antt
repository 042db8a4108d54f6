-- `walk_items::feature_over` meets its contract.
use Rattle.walk_items.proofs.Sequences.{feature_over}
use Rattle.walk_items.proofs.feature_over.Goals as goal

pub returns : goal.returns
returns c = feature_over c.feature.ensures c.feature_past.ensures
