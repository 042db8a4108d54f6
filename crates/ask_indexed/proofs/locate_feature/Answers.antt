-- A refusal, or its answer.
use Rattle.std.proofs.lemmas.Result.{err_from_is_err_and}
use Rattle.ask_indexed.proofs.Answered.{feature_refused, feature_answered}
use Rattle.ask_indexed.proofs.locate_feature.Goals as goal

pub returns-in_err-body : goal.returns-in_err-body
returns-in_err-body c =
    let p = err_from_is_err_and c.from_residual.result c.from_residual.ensures.1 in
    rw (p.1, p.2) (feature_refused c.in_err-body.ensures)

pub returns : goal.returns
returns c = feature_answered c.in_ok-body.ensures c.feature_answer.ensures
