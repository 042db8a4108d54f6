use native.Mathlib.Omega.{arith}
use Rattle.ask_translations.proofs.Walks.{planned_passes}
use Rattle.ask_translations.proofs.AllLines.{laying_none, laying_more, laying_stuck, laying_done}
use Rattle.ask_translations.proofs.lay_rest.Goals as goal

pub loop-s-init : goal.loop-s-init
loop-s-init c = laying_none _ c.requires.was_in_bounds

pub lay_behind-laid-requires : goal.lay_behind-laid-requires
lay_behind-laid-requires c = c.loop-s.invariant.within

pub loop-s-preserved : goal.loop-s-preserved
loop-s-preserved c =
    laying_more c.child_here.ensures c.loop-s.invariant c.loop-s-test.true c.feature-feature.ensures
    (planned_passes c.plan_of-plan.ensures c.feature_end-next.ensures) c.plan_of-plan.ensures c.lay_behind-laid.ensures

pub loop-s-smaller : goal.loop-s-smaller
loop-s-smaller c = omega (arith, c.child_here.ensures.inside c.loop-s-test.true, c.if-next-at.false)

pub returns-then-next-at : goal.returns-then-next-at
returns-then-next-at c =
    laying_stuck c.child_here.ensures c.loop-s.invariant c.loop-s-test.true c.feature-feature.ensures
    (planned_passes c.plan_of-plan.ensures c.feature_end-next.ensures) c.if-next-at.true

pub returns-after-loop-s : goal.returns-after-loop-s
returns-after-loop-s c = laying_done c.child_here.ensures c.loop-s.invariant c.loop-s-test.false
