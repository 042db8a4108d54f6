-- `dreichnook::dreichnook_translation` meets its contract.
use Rattle.paper.specs.Answers.{TranslationSays}
use Rattle.paper.proofs.Demands.{demand1}
use Rattle.dreichnook.proofs.Handed.{lent_handed}
use Rattle.dreichnook.proofs.dreichnook_translation.Goals as goal

pub returns : goal.returns
returns c =
    let args = c.args in
    let translation = c.translation in
    lent_handed (TranslationSays args.listing.now args.sequence args.feature args.out.now) (λ n p z after. demand1.translation args.listing.now args.sequence args.feature n p z args.out.now after) translation.ensures c.hand_lent.ensures
