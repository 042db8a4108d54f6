-- `walk_items::feature_rest` meets its contract.
use Rattle.walk_items.proofs.Features.{feature_rest}
use Rattle.walk_items.proofs.feature_rest.Goals as goal

pub returns : goal.returns
returns c = feature_rest c.child_here.ensures c.children-long.ensures
