use Rattle.std.proofs.lemmas.Result.{err_from_is_err_and}
use Rattle.lent_room.proofs.Characters.{reading_start, reading_off, reading_on, reading_end}
use Rattle.lent_room.proofs.lay_read.Goals as goal

pub loop-i-init : goal.loop-i-init
loop-i-init c = reading_start c.args.pass

pub returns-in_err-end : goal.returns-in_err-end
returns-in_err-end c =
    let p = err_from_is_err_and c.from_residual.result c.from_residual.ensures.1 in
    rw (p.1, p.2) (reading_off c.loop-i.invariant c.loop-i-test.true c.first-c.ensures c.in_err-end.ensures)

pub loop-i-preserved : goal.loop-i-preserved
loop-i-preserved c = reading_on c.loop-i.invariant c.loop-i-test.true c.first-c.ensures c.in_ok-end.ensures

pub returns : goal.returns
returns c = reading_end c.loop-i.invariant c.loop-i-test.false
