-- `dreichnook::dreichnook_indexed_translation` meets its contract.
use Rattle.paper.specs.Index.{IndexedTranslationSays}
use Rattle.paper.proofs.Demands.{demand1}
use Rattle.dreichnook.proofs.Handed.{lent_handed}
use Rattle.dreichnook.proofs.dreichnook_indexed_translation.Goals as goal

pub returns : goal.returns
returns c =
    let args = c.args in
    let translation = c.translation in
    lent_handed (IndexedTranslationSays args.listing.now args.index.now args.sequence args.feature args.out.now) (λ n p z after. demand1.indexed_translation args.listing.now args.index.now args.sequence args.feature n p z args.out.now after) translation.ensures c.hand_lent.ensures
