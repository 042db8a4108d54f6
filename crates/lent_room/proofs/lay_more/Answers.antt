-- Behind what was laid, or nothing.
use Rattle.std.proofs.lemmas.Result.{err_from_is_err_and}
use Rattle.lent_room.proofs.Passes.{more_on, more_off}
use Rattle.lent_room.proofs.lay_more.Goals as goal

pub returns-in_err-was : goal.returns-in_err-was
returns-in_err-was c =
    let p = err_from_is_err_and c.from_residual.result c.from_residual.ensures.1 in
    rw (p.1, p.2, c.in_err-was.was) more_off

pub returns : goal.returns
returns c = rw c.in_ok-was.was (more_on c.lay_numbers.ensures)
