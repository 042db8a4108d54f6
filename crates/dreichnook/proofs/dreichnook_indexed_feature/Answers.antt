-- `dreichnook::dreichnook_indexed_feature` meets its contract.
use Rattle.paper.specs.Index.{IndexedFeatureSays}
use Rattle.paper.proofs.Demands.{demand1, demand2}
use Rattle.dreichnook.proofs.Handed.{feature_handed}
use Rattle.dreichnook.proofs.dreichnook_indexed_feature.Goals as goal

pub returns : goal.returns
returns c =
    let locate-feature = c.locate_feature in
    let args = c.args in
    let w = args.listing.now in
    let out = args.out.now in
    let p = feature_handed w out (IndexedFeatureSays args.listing.now args.index.now args.sequence args.feature out) (λ n p x after. demand1.indexed_feature args.listing.now args.index.now args.sequence args.feature n p x out after) (λ n p x after. demand2.indexed_feature args.listing.now args.index.now args.sequence args.feature n p x out after) locate-feature.ensures c.hand_feature.ensures in record { indexed_feature_says = p.0; in_listing = p.1 }
