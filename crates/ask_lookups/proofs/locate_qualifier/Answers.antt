-- `ask_lookups::locate_qualifier` meets its contract.
use Rattle.std.proofs.lemmas.Result.{err_from_is_err_and}
use Rattle.ask_found.proofs.Located.{qualifier_refused}
use Rattle.ask_lookups.proofs.Asked.{qualifier_answered}
use Rattle.ask_lookups.proofs.locate_qualifier.Goals as goal

pub returns-in_err-found : goal.returns-in_err-found
returns-in_err-found c =
    let p = err_from_is_err_and c.from_residual.result c.from_residual.ensures.1 in
    rw (p.1, p.2) (qualifier_refused c.in_err-found.ensures)

pub returns : goal.returns
returns c = qualifier_answered c.in_ok-found.ensures c.qualifier_answer.ensures
