-- Where its parts stand, and then they themselves.
use Rattle.paper.specs.Index.{IndexedFeatureSays}
use Rattle.ask_show.proofs.Views.{shows_feature}
use Rattle.ask_indexed.proofs.feature.Goals as goal

pub returns : goal.returns
returns c =
    let args = c.args in
    let w = args.listing in
    shows_feature w.now w.ref_ptr (IndexedFeatureSays w.now args.index.now args.k args.j args.out.now) _ _ _ c.locate_feature.ensures c.show_feature.ensures
