-- As the pass asks.
use Rattle.std.proofs.lemmas.Result.{err_from_is_err_and}
use Rattle.lent_room.proofs.Passes.{fits_inside, pass_compare, pass_measure, pass_write, pass_short}
use Rattle.lent_room.proofs.lay_bytes.Goals as goal

pub put-requires : goal.put-requires
put-requires c = fits_inside c.in_ok-end-in-Write.ensures

pub returns-in-Compare : goal.returns-in-Compare
returns-in-Compare c = pass_compare c.in-Compare.is c.compare.ensures

pub returns-in-Measure : goal.returns-in-Measure
returns-in-Measure c = pass_measure c.in-Measure.is c.fit.ensures

pub returns-in_ok-end-in-Write : goal.returns-in_ok-end-in-Write
returns-in_ok-end-in-Write c = pass_write c.in-Write.is c.in_ok-end-in-Write.ensures c.put.ensures

pub returns-in_err-end-in-Write : goal.returns-in_err-end-in-Write
returns-in_err-end-in-Write c =
    let p = err_from_is_err_and c.from_residual.result c.from_residual.ensures.1 in
    rw (p.1, p.2) (pass_short c.in-Write.is c.in_err-end-in-Write.ensures)
