-- Where the pass goes on, in what is left of the room.
use native.Mathlib.Omega.{arith}
use Rattle.std.proofs.lemmas.Result.{err_from_is_err_and, IfOk-at_ok}
use Rattle.ask_translations.proofs.OneLine.{behind_off, behind_ok, behind_stopped}
use Rattle.ask_translations.proofs.lay_behind.Goals as goal

pub returns-in_err-at : goal.returns-in_err-at
returns-in_err-at c =
    let p = err_from_is_err_and c.from_residual.result c.from_residual.ensures.1 in
    rw (p.1, p.2, c.in_err-at.was) (behind_off c.args.plan)

pub overflow_add-result : goal.overflow_add-result
overflow_add-result c =
    omega (arith, IfOk-at_ok _ c.in-Ok.is c.lay_line.ensures.within, IfOk-at_ok _ c.in_ok-at.was c.requires, c.well_formed)

pub returns-in-Ok : goal.returns-in-Ok
returns-in-Ok c = rw c.in_ok-at.was (behind_ok c.args.plan (IfOk-at_ok _ c.in_ok-at.was c.requires) c.lay_line.ensures c.in-Ok.is)

pub returns-in-Err : goal.returns-in-Err
returns-in-Err c = rw c.in_ok-at.was (behind_stopped c.args.plan (IfOk-at_ok _ c.in_ok-at.was c.requires) c.lay_line.ensures c.in-Err.is)
