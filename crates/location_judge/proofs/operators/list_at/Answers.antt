-- An operator's word at a place.
use native.Mathlib.Omega.{arith}
use Rattle.paper.specs.Bytes.{bytes}
use Rattle.location_judge.proofs.Stand.{room}
use Rattle.location_judge.proofs.Levels.{list_join, list_order, list_no}
use Rattle.location_judge.proofs.operators.list_at.Goals as goal

pub returns-then-begins : goal.returns-then-begins
returns-then-begins c = list_join c.begins.ensures c.if-begins.true

pub overflow_add-result-then-begins-2 : goal.overflow_add-result-then-begins-2
overflow_add-result-then-begins-2 c = omega (arith, room (bytes "order(") c.begins-2.ensures c.if-begins-2.true)

pub returns-then-begins-2 : goal.returns-then-begins-2
returns-then-begins-2 c =
    list_order c.begins.ensures c.if-begins.false c.begins-2.ensures
    c.if-begins-2.true

pub returns : goal.returns
returns c =
    list_no c.begins.ensures c.if-begins.false c.begins-2.ensures
    c.if-begins-2.false
