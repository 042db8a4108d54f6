-- `dreichnook::dreichnook_feature` meets its contract.
use Rattle.paper.specs.Answers.{FeatureSays}
use Rattle.paper.proofs.Demands.{demand1, demand2}
use Rattle.dreichnook.proofs.Handed.{feature_handed}
use Rattle.dreichnook.proofs.dreichnook_feature.Goals as goal

pub returns : goal.returns
returns c =
    let locate-feature = c.locate_feature in
    let args = c.args in
    let w = args.listing.now in
    let out = args.out.now in
    let p = feature_handed w out (FeatureSays args.listing.now args.sequence args.feature out) (λ n p x after. demand1.feature args.listing.now args.sequence args.feature n p x out after) (λ n p x after. demand2.feature args.listing.now args.sequence args.feature n p x out after) locate-feature.ensures c.hand_feature.ensures in record { feature_says = p.0; in_listing = p.1 }
