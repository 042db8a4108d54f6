-- Where its parts stand, and then they themselves.
use Rattle.paper.specs.Index.{IndexedQualifierSays}
use Rattle.ask_show.proofs.Views.{shows_qualifier}
use Rattle.ask_indexed.proofs.qualifier.Goals as goal

pub returns : goal.returns
returns c =
    let args = c.args in
    let w = args.listing in
    shows_qualifier w.now w.ref_ptr (IndexedQualifierSays w.now args.index.now args.k args.j args.i) _ _ c.locate_qualifier.ensures
    c.show_qualifier.ensures
