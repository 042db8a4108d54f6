-- `dreichnook::dreichnook_qualifier` meets its contract.
use Rattle.paper.specs.Answers.{QualifierSays}
use Rattle.paper.proofs.Demands.{demand1, demand2}
use Rattle.dreichnook.proofs.Handed.{qualifier_handed}
use Rattle.dreichnook.proofs.dreichnook_qualifier.Goals as goal

pub returns : goal.returns
returns c =
    let args = c.args in
    let locate-qualifier = c.locate_qualifier in
    qualifier_handed args.listing.now (QualifierSays args.listing.now args.sequence args.feature args.qualifier)
    (demand1.qualifier args.listing.now args.sequence args.feature args.qualifier)
    (demand2.qualifier args.listing.now args.sequence args.feature args.qualifier) locate-qualifier.ensures
    c.hand_qualifier.ensures
