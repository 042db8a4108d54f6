-- A refusal of the feature, 33, or its answer.
use Rattle.std.proofs.lemmas.Result.{err_from_is_err_and}
use Rattle.ask_indexed.proofs.Answered.{qualifier_refused, qualifier_missing, qualifier_answered}
use Rattle.ask_indexed.proofs.locate_qualifier.Goals as goal

pub returns-in_err-entry : goal.returns-in_err-entry
returns-in_err-entry c =
    let p = err_from_is_err_and c.from_residual.result c.from_residual.ensures.1 in
    rw (p.1, p.2) (qualifier_refused c.in_err-entry.ensures)

pub returns-in_err-found : goal.returns-in_err-found
returns-in_err-found c =
    let p = err_from_is_err_and c.from_residual-in_err-found.result c.from_residual-in_err-found.ensures.1 in
    rw (p.1, p.2) (qualifier_missing c.in_ok-entry.ensures c.feature_from-feature.ensures c.qualifier_in.ensures c.in_err-found.was)

pub returns : goal.returns
returns c =
    qualifier_answered c.in_ok-entry.ensures c.feature_from-feature.ensures c.qualifier_in.ensures c.in_ok-found.was c.qualifier_answer.ensures
