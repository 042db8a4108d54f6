-- The last member before a place.
use native.Mathlib.Omega.{arith}
use Rattle.location_spans.proofs.Walks.{behind_outside, behind_no, behind_last, behind_more}
use Rattle.location_spans.proofs.walking.behind.Goals as goal

pub returns-then-at-low : goal.returns-then-at-low
returns-then-at-low c = behind_outside (λ h k. omega (arith, c.then-at-low.either))

pub returns-in_err-found : goal.returns-in_err-found
returns-in_err-found c = rw c.from_residual.ensures (behind_no c.last_start-i.ensures c.in_err-found.ensures)

pub returns-then-i-low : goal.returns-then-i-low
returns-then-i-low c =
    behind_last c.last_start-i.ensures c.ranges.top.fits c.in_ok-found.ensures c.if-i-low.true c.give.result c.give.ensures

pub returns : goal.returns
returns c =
    behind_more c.last_start-i.ensures c.ranges.top.fits c.in_ok-found.ensures c.if-i-low.false c.give-2.result c.give-2.ensures
