-- `dreichnook::dreichnook_translations` meets its contract.
use Rattle.paper.specs.Answers.{TranslationsSays}
use Rattle.paper.proofs.Demands.{demand1}
use Rattle.dreichnook.proofs.Handed.{lent_handed}
use Rattle.dreichnook.proofs.dreichnook_translations.Goals as goal

pub returns : goal.returns
returns c =
    let args = c.args in
    let translations = c.translations in
    lent_handed (TranslationsSays args.listing.now args.sequence args.out.now) (λ n p z after. demand1.translations args.listing.now args.sequence n p z args.out.now after) translations.ensures c.hand_lent.ensures
