use Rattle.std.proofs.Common.{arith}
use Rattle.index_walk.proofs.Bodies.{featuring_none, featuring_stuck, featuring_next, featuring_done}
use Rattle.index_walk.proofs.lay_features.Goals as goal

pub loop-pass-init : goal.loop-pass-init
loop-pass-init c = featuring_none

pub loop-pass-preserved : goal.loop-pass-preserved
loop-pass-preserved c =
    featuring_next c.child_here.ensures c.loop-pass.invariant c.loop-pass-test.true c.feature-feature.ensures c.feature_past-next.ensures
    c.feature_entry-numbers.ensures c.lay_more-laid.ensures c.wrapping_add_usize-size.ensures.value

pub loop-pass-smaller : goal.loop-pass-smaller
loop-pass-smaller c = omega (arith, c.child_here.ensures.inside c.loop-pass-test.true, c.if-next-at.false)

pub returns-then-next-at : goal.returns-then-next-at
returns-then-next-at c =
    featuring_stuck c.child_here.ensures c.loop-pass.invariant c.loop-pass-test.true c.feature-feature.ensures c.feature_past-next.ensures c.if-next-at.true

pub returns-after-loop-pass : goal.returns-after-loop-pass
returns-after-loop-pass c = featuring_done c.child_here.ensures c.loop-pass.invariant c.loop-pass-test.false
