-- `walk_items::feature_end` meets its contract.
use Rattle.paper.specs.Bytes.{bytes}
use Rattle.walk_steps.specs.Stands.{shutting, leaving}
use Rattle.walk_steps.proofs.Elements.{then_ends, leaving_sharp}
use Rattle.walk_items.proofs.feature_end.Goals as goal

pub returns : goal.returns
returns c =
    let args = c.args in
    then_ends (shutting (bytes "INSDFeature_quals") args.long) (leaving (bytes "INSDFeature")) (leaving_sharp (bytes "INSDFeature"))
    c.shut-a.ensures c.leave.ensures
