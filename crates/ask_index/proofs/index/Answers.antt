-- The check's refusal, 34, or the index.
use Rattle.std.proofs.lemmas.Result.{err_from_is_err_and}
use native.Mathlib.Omega.{arith}
use Rattle.ask_index.proofs.Made.{few, made_refused, made_short, made_whole}
use Rattle.ask_index.proofs.index.Goals as goal

pub returns-in_err-list : goal.returns-in_err-list
returns-in_err-list c =
    let p = err_from_is_err_and c.from_residual.result c.from_residual.ensures.1 in
    rw (p.1, p.2) (made_refused c.in_err-list.ensures)

pub overflow_mul-size : goal.overflow_mul-size
overflow_mul-size c = omega (arith, (few c.in_ok-list.ensures).0)

pub overflow_add-size : goal.overflow_add-size
overflow_add-size c = omega (arith, (few c.in_ok-list.ensures).0)

pub overflow_mul-size-2 : goal.overflow_mul-size-2
overflow_mul-size-2 c = omega (arith, (few c.in_ok-list.ensures).1)

pub overflow_add-size-2 : goal.overflow_add-size-2
overflow_add-size-2 c = omega (arith, few c.in_ok-list.ensures)

pub returns-then-out-size : goal.returns-then-out-size
returns-then-out-size c = made_short c.in_ok-list.ensures c.if-out-size.true

pub overflow_mul-bodies : goal.overflow_mul-bodies
overflow_mul-bodies c = omega (arith, (few c.in_ok-list.ensures).0)

pub overflow_add-bodies : goal.overflow_add-bodies
overflow_add-bodies c = omega (arith, (few c.in_ok-list.ensures).0)

pub shape_of-out : goal.shape_of-out
shape_of-out c = c.lay_index.ensures.kept

pub returns : goal.returns
returns c = made_whole c.in_ok-list.ensures c.if-out-size.false c.lay_index.ensures
