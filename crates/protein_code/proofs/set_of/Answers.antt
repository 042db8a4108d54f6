-- `protein_code::set_of` meets its contract: a byte is below 256, so the table's rule holds at it.
use Rattle.std.proofs.Common.{true, false, arith, rules}
use Rattle.protein_code.proofs.set_of.Goals as goal

pub overflow_cast-result-then-turned : goal.overflow_cast-result-then-turned
overflow_cast-result-then-turned c =
    let a = c.args in
    omega (arith, (c.requires.sets true a.b (search rules)).small)

pub returns-then-turned : goal.returns-then-turned
returns-then-turned c =
    let a = c.args in
    rw c.if-turned.true (c.requires.sets true a.b (search rules))

pub overflow_cast-result-3 : goal.overflow_cast-result-3
overflow_cast-result-3 c =
    let a = c.args in
    omega (arith, (c.requires.sets false a.b (search rules)).small)

pub returns : goal.returns
returns c =
    let a = c.args in
    rw c.if-turned.false (c.requires.sets false a.b (search rules))
