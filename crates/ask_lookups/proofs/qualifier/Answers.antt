-- `ask_lookups::qualifier` meets its contract.
use Rattle.paper.specs.Answers.{QualifierSays}
use Rattle.ask_show.proofs.Views.{shows_qualifier}
use Rattle.ask_lookups.proofs.qualifier.Goals as goal

pub returns : goal.returns
returns c =
    let args = c.args in
    let w = args.listing in
    shows_qualifier w.now w.ref_ptr (QualifierSays w.now args.k args.j args.i) _ _ c.locate_qualifier.ensures c.show_qualifier.ensures
