-- `ask_find::find_qualifier` meets its contract.
use Rattle.std.proofs.lemmas.Result.{err_from_is_err_and}
use Rattle.paper.specs.Answers as paper
use Rattle.ask_find.proofs.Found.{qualifier_asked}
use Rattle.ask_find.proofs.find_qualifier.Goals as goal

pub returns-in_err-feature : goal.returns-in_err-feature
returns-in_err-feature c =
    let p = err_from_is_err_and c.from_residual.result c.from_residual.ensures.1 in
    rw (p.1, p.2) (paper.earlier c.in_err-feature.ensures)

pub returns : goal.returns
returns c = qualifier_asked c.in_ok-feature.ensures c.qualifier_in.result c.qualifier_in.ensures
