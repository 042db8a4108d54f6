use native.Mathlib.Omega.{arith}
use Rattle.walk_seek.proofs.Ahead.{none_zero, ahead_all, ahead_none, ahead_here, ahead_next}
use Rattle.walk_seek.proofs.nth.Goals as goal

pub returns-then-k-eq0 : goal.returns-then-k-eq0
returns-then-k-eq0 c = none_zero c.args.item c.if-k-eq0.true

pub loop-init : goal.loop-init
loop-init c = ahead_all c.args.item (omega (arith, c.if-k-eq0.false))

pub returns-then-not-child_here : goal.returns-then-not-child_here
returns-then-not-child_here c = ahead_none c.args.item c.child_here.ensures c.loop.invariant c.if-not-child_here.true

pub loop-preserved : goal.loop-preserved
loop-preserved c =
    ahead_next c.args.item c.child_here.ensures c.loop.invariant c.if-not-child_here.false c.item_over-at.ensures (omega (arith, c.loop-test.true))

pub returns-then-child_here : goal.returns-then-child_here
returns-then-child_here c =
    ahead_here c.args.item c.child_here-2.ensures c.loop.invariant c.if-child_here.true (omega (arith, c.loop-test.false))

pub returns-else-child_here : goal.returns-else-child_here
returns-else-child_here c = ahead_none c.args.item c.child_here-2.ensures c.loop.invariant c.if-child_here.false
