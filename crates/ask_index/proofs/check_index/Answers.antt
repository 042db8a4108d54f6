-- The check's refusal, 50, or that it belongs.
use Rattle.std.proofs.lemmas.Result.{err_from_is_err_and}
use native.Mathlib.Omega.{arith}
use Rattle.paper.specs.Index.{ChecksIndex}
use Rattle.ask_index.proofs.Made.{few, takes_none, takes_longer, takes_whole}
use Rattle.ask_index.proofs.check_index.Goals as goal

pub returns-in_err-list : goal.returns-in_err-list
returns-in_err-list c =
    let p = err_from_is_err_and c.from_residual.result c.from_residual.ensures.1 in
    rw (p.1, p.2) (ChecksIndex.own c.in_err-list.ensures)

pub overflow_mul-bodies : goal.overflow_mul-bodies
overflow_mul-bodies c = omega (arith, (few c.in_ok-list.ensures).0)

pub overflow_add-bodies : goal.overflow_add-bodies
overflow_add-bodies c = omega (arith, (few c.in_ok-list.ensures).0)

pub returns-in-Err : goal.returns-in-Err
returns-in-Err c = takes_none c.in_ok-list.ensures c.lay_index-laid.ensures c.in-Err.is

pub returns-then-place-index : goal.returns-then-place-index
returns-then-place-index c = takes_longer c.in_ok-list.ensures c.lay_index-laid.ensures c.in-Ok.is c.if-place-index.true

pub returns-else-place-index : goal.returns-else-place-index
returns-else-place-index c = takes_whole c.in_ok-list.ensures c.lay_index-laid.ensures c.in-Ok.is c.if-place-index.false
