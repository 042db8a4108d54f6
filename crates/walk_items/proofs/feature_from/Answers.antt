-- `walk_items::feature_from` meets its contract.
use Rattle.walk_items.proofs.Features.{feature_from}
use Rattle.walk_items.proofs.feature_from.Goals as goal

pub returns : goal.returns
returns c = feature_from c.leave-d.ensures c.feature_rest.ensures
