-- The qualifier that stands there, if its name is translation.
use Rattle.ask_translation.proofs.Planning.{given_none, given_value}
use Rattle.ask_translation.proofs.given_at.Goals as goal

pub returns-then-same : goal.returns-then-same
returns-then-same c =
    given_value c.child_here.ensures c.if-child_here.true c.qualifier-qualifier.ensures c.bytes_of.ensures c.same.ensures c.if-same.true

pub returns-else-same : goal.returns-else-same
returns-else-same c = given_none

pub returns-else-child_here : goal.returns-else-child_here
returns-else-child_here c = given_none
