-- `dreichnook::dreichnook_index` meets its contract.
use Rattle.paper.specs.Index.{IndexSays}
use Rattle.paper.proofs.Demands.{demand1}
use Rattle.dreichnook.proofs.Handed.{lent_handed}
use Rattle.dreichnook.proofs.dreichnook_index.Goals as goal

pub returns : goal.returns
returns c =
    let args = c.args in
    let index = c.index in
    lent_handed (IndexSays args.listing.now args.out.now) (λ n p z after. demand1.index args.listing.now n p z args.out.now after) index.ensures c.hand_lent.ensures
