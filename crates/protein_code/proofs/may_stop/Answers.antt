-- `protein_code::may_stop` meets its contract: on each strand the letters that are compared are the table's.
use Rattle.std.proofs.Common.{true, false, rules}
use Rattle.protein_code.proofs.may_stop.Goals as goal

pub returns-then-turned : goal.returns-then-turned
returns-then-turned c =
    λ h.
    let a = c.args in
    rw c.if-turned.true
    (c.requires.stops true a.x a.y a.z (search rules) (search rules) (search rules) (c.has_sum.ensures h))

pub returns : goal.returns
returns c =
    λ h.
    let a = c.args in
    rw c.if-turned.false
    (c.requires.stops false a.x a.y a.z (search rules) (search rules) (search rules) (c.has_sum-2.ensures h))
