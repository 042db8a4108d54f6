-- `protein_code::has_sum` meets its contract: three numbers joined are the test.
use Rattle.std.proofs.Common.{eqb}
use Rattle.protein_code.proofs.Stopping.{none_of}
use Rattle.protein_code.proofs.has_sum.Goals as goal

pub returns : goal.returns
returns c =
    λ h.
    let a = c.args in
    let sum = c.wrapping_add_u8-sum in
    rw (← sum.ensures.value)
    (none_of (eqb a.x a.f) (eqb sum.result a.p) (eqb sum.result a.q) (eqb sum.result a.r)
    c.equal.ensures c.equal-2.ensures c.equal-3.ensures c.equal-4.ensures h)
