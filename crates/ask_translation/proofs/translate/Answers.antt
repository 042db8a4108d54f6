-- Planned, and then written.
use Rattle.std.proofs.lemmas.Result.{err_from_is_err_and}
use Rattle.ask_translation.proofs.Ones.{translated}
use Rattle.ask_translation.proofs.translate.Goals as goal

pub returns-in_err-size : goal.returns-in_err-size
returns-in_err-size c =
    let p = err_from_is_err_and c.from_residual.result c.from_residual.ensures.1 in
    rw (p.1, p.2) (translated c.plan_of-plan.ensures c.in_err-size.ensures)

pub returns : goal.returns
returns c = translated c.plan_of-plan.ensures c.in_ok-size.ensures
