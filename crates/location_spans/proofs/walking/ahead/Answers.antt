-- The next member and what stands behind it.
use Rattle.location_spans.proofs.Walks.{ahead_no, ahead_next, ahead_last}
use Rattle.location_spans.proofs.walking.ahead.Goals as goal

pub returns-in_err-found : goal.returns-in_err-found
returns-in_err-found c = rw c.from_residual.ensures (ahead_no c.in_err-found.ensures)

pub returns-then-begins : goal.returns-then-begins
returns-then-begins c =
    ahead_next c.ranges.top.fits c.in_ok-found.ensures c.begins.ensures c.if-begins.true c.give.result c.give.ensures

pub returns : goal.returns
returns c = ahead_last c.ranges.top.fits c.in_ok-found.ensures c.begins.ensures c.if-begins.false c.give-2.result c.give-2.ensures
