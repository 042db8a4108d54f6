-- The checker's refusal, 30, 31, or the body.
use Rattle.std.proofs.lemmas.Result.{err_from_is_err_and}
use Rattle.ask_indexed.specs.Finds.{checker}
use Rattle.ask_indexed.proofs.Found.{body_found}
use Rattle.ask_indexed.proofs.find_body.Goals as goal

pub returns-in_err-check_index : goal.returns-in_err-check_index
returns-in_err-check_index c =
    let p = err_from_is_err_and c.from_residual.result c.from_residual.ensures.1 in
    rw (p.1, p.2) (checker c.in_err-check_index.ensures)

pub returns : goal.returns
returns c = body_found c.in_ok-check_index.ensures _ c.body_of.ensures
