-- `dreichnook::dreichnook_indexed_qualifier` meets its contract.
use Rattle.paper.specs.Index.{IndexedQualifierSays}
use Rattle.paper.proofs.Demands.{demand1, demand2}
use Rattle.dreichnook.proofs.Handed.{qualifier_handed}
use Rattle.dreichnook.proofs.dreichnook_indexed_qualifier.Goals as goal

pub returns : goal.returns
returns c =
    let args = c.args in
    let locate-qualifier = c.locate_qualifier in
    qualifier_handed args.listing.now
    (IndexedQualifierSays args.listing.now args.index.now args.sequence args.feature args.qualifier)
    (demand1.indexed_qualifier args.listing.now args.index.now args.sequence args.feature args.qualifier)
    (demand2.indexed_qualifier args.listing.now args.index.now args.sequence args.feature args.qualifier)
    locate-qualifier.ensures c.hand_qualifier.ensures
