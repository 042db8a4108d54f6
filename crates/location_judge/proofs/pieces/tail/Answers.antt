-- Behind a first number: a range, or the number alone.
use native.Mathlib.Omega.{arith}
use Rattle.paper.specs.Bytes.{bytes}
use Rattle.location_judge.proofs.Stand.{room, not_begun}
use Rattle.location_judge.proofs.Kept.{tail_lone, tail_high, tail_low}
use Rattle.location_judge.proofs.pieces.tail.Goals as goal

pub overflow_add-i : goal.overflow_add-i
overflow_add-i c = omega (arith, room (bytes "..") c.begins.ensures c.if-begins.true)

pub overflow_add-i-then-begins-2 : goal.overflow_add-i-then-begins-2
overflow_add-i-then-begins-2 c = omega (arith, room (bytes ">") c.begins-then-begins.ensures c.if-begins-2.true)

pub returns-then-begins-2 : goal.returns-then-begins-2
returns-then-begins-2 c =
    let begins = c.begins in
    tail_high begins.ensures c.if-begins.true
    c.begins-then-begins.ensures c.if-begins-2.true c.pair.result c.pair.ensures

pub returns-then-begins : goal.returns-then-begins
returns-then-begins c =
    let begins = c.begins in
    tail_low begins.ensures c.if-begins.true
    c.begins-then-begins.ensures c.if-begins-2.false c.pair-then-begins.result c.pair-then-begins.ensures

pub returns : goal.returns
returns c =
    tail_lone c.requires.0 c.requires.1
    (λ w st. not_begun (bytes "..") c.begins.ensures st c.if-begins.false)
