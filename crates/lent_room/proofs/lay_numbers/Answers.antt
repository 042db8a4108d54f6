use Rattle.std.proofs.lemmas.Result.{err_from_is_err_and}
use Rattle.lent_room.proofs.Passes.{lays_none}
use Rattle.lent_room.proofs.Numbers.{numbers_on, numbers_off}
use Rattle.lent_room.proofs.lay_numbers.Goals as goal

pub loop-n-init : goal.loop-n-init
loop-n-init c = lays_none c.args.pass

pub returns-in_err-end : goal.returns-in_err-end
returns-in_err-end c =
    let p = err_from_is_err_and c.from_residual.result c.from_residual.ensures.1 in
    rw (p.1, p.2) (numbers_off _ _ c.loop-n-test.true c.loop-n.invariant c.in_err-end.ensures)

pub loop-n-preserved : goal.loop-n-preserved
loop-n-preserved c = numbers_on _ _ c.loop-n-test.true c.loop-n.invariant c.in_ok-end.ensures
