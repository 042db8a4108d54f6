-- The size, and then the letters where it is in the room.
use Rattle.std.proofs.lemmas.Result.{err_from_is_err_and}
use Rattle.protein_measure.proofs.Measuring.{measures_none}
use Rattle.protein_write.proofs.Putting.{writes_is, writes_none}
use Rattle.protein_write.proofs.write.Goals as goal

pub returns-then-coding : goal.returns-then-coding
returns-then-coding c = writes_none (measures_none c.if-coding.true)

pub returns-in_err-n : goal.returns-in_err-n
returns-in_err-n c =
    let p = err_from_is_err_and c.from_residual.result c.from_residual.ensures.1 in
    rw (p.1, p.2) (writes_none c.in_err-n.ensures)

pub returns : goal.returns
returns c = writes_is c.begin.ensures c.in_ok-n.ensures c.put.ensures
