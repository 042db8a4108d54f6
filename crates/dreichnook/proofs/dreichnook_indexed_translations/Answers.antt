-- `dreichnook::dreichnook_indexed_translations` meets its contract.
use Rattle.paper.specs.Index.{IndexedTranslationsSays}
use Rattle.paper.proofs.Demands.{demand1}
use Rattle.dreichnook.proofs.Handed.{lent_handed}
use Rattle.dreichnook.proofs.dreichnook_indexed_translations.Goals as goal

pub returns : goal.returns
returns c =
    let args = c.args in
    let translations = c.translations in
    lent_handed (IndexedTranslationsSays args.listing.now args.index.now args.sequence args.out.now) (λ n p z after. demand1.indexed_translations args.listing.now args.index.now args.sequence n p z args.out.now after) translations.ensures c.hand_lent.ensures
