-- `ask_check::check` meets its contract.
use mathlib.Core.Path.{refl}
use Rattle.std.proofs.lemmas.Result.{err_from_is_err_and}
use Rattle.ask_check.proofs.Verdicts.{refused_so, broken_so, accepted_so}
use Rattle.ask_check.proofs.check.Goals as goal

pub returns-in_err-layout : goal.returns-in_err-layout
returns-in_err-layout c =
    let p = err_from_is_err_and c.from_residual.result c.from_residual.ensures.1 in
    rw (p.1, p.2) (refused_so c.in_err-layout.ensures)

pub returns-in-None : goal.returns-in-None
returns-in-None c =
    accepted_so c.in_ok-layout.ensures c.judge-judged.ensures refl c.in-None.is

pub returns-in-Some : goal.returns-in-Some
returns-in-Some c =
    broken_so c.in_ok-layout.ensures c.judge-judged.ensures refl c.in-Some.is
