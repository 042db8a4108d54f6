-- `judge_features::judge_features` meets its contract.
use native.Mathlib.Omega.{arith}
use Rattle.judge_features.proofs.Sums.{adding_none, adding_more, adding_stuck, adding_done}
use Rattle.judge_features.proofs.judge_features.Goals as goal

pub loop-known-init : goal.loop-known-init
loop-known-init c = adding_none c.no_features-tally.ensures

pub loop-known-smaller : goal.loop-known-smaller
loop-known-smaller c = omega (arith, c.child_here.ensures.inside c.loop-known-test.true)

pub loop-known-preserved : goal.loop-known-preserved
loop-known-preserved c =
    let test = c.loop-known-test.true in
    adding_more test c.child_here.ensures c.loop-known.invariant c.judge_feature-x.ensures
    (c.child_here.ensures.inside test) (omega arith) c.add-tally.ensures

pub returns-after-loop-known : goal.returns-after-loop-known
returns-after-loop-known c = adding_done c.loop-known-test.false c.child_here.ensures c.loop-known.invariant

pub returns-then-x-at : goal.returns-then-x-at
returns-then-x-at c =
    adding_stuck c.loop-known-test.true c.child_here.ensures c.loop-known.invariant c.judge_feature-x.ensures c.if-x-at.true
