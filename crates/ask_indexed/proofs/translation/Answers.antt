-- A refusal, or its answer.
use Rattle.std.proofs.lemmas.Result.{err_from_is_err_and}
use Rattle.ask_indexed.proofs.Answered.{translation_refused, translation_answered}
use Rattle.ask_indexed.proofs.translation.Goals as goal

pub returns-in_err-body : goal.returns-in_err-body
returns-in_err-body c =
    let p = err_from_is_err_and c.from_residual.result c.from_residual.ensures.1 in
    rw (p.1, p.2) (translation_refused c.in_err-body.ensures)

pub returns : goal.returns
returns c =
    translation_answered c.in_ok-body.ensures c.feature_from-feature.ensures c.known_of-known.ensures c.translation_answer.ensures
