-- `ask_find::accepted` meets its contract.
use Rattle.std.proofs.lemmas.Result.{err_from_is_err_and}
use Rattle.ask_find.proofs.Found.{first_found}
use Rattle.ask_find.proofs.accepted.Goals as goal

pub returns-in_err-figures : goal.returns-in_err-figures
returns-in_err-figures c = let p = err_from_is_err_and c.from_residual.result c.from_residual.ensures.1 in rw (p.1, p.2) c.in_err-figures.ensures

pub returns : goal.returns
returns c = first_found c.in_ok-figures.ensures c.judge_header-headed.ensures
