-- `ask_lookups::feature` meets its contract.
use Rattle.paper.specs.Answers.{FeatureSays}
use Rattle.ask_show.proofs.Views.{shows_feature}
use Rattle.ask_lookups.proofs.feature.Goals as goal

pub returns : goal.returns
returns c =
    let args = c.args in
    let w = args.listing in
    shows_feature w.now w.ref_ptr (FeatureSays w.now args.k args.j args.out.now) _ _ _ c.locate_feature.ensures c.show_feature.ensures
