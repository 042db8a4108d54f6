-- `judge_sequences::judge_sequences` meets its contract.
use native.Mathlib.Omega.{arith}
use Rattle.judge_sequences.proofs.Totals.{adding_none, adding_more, adding_stuck, adding_done}
use Rattle.judge_sequences.proofs.judge_sequences.Goals as goal

pub loop-k-init : goal.loop-k-init
loop-k-init c = adding_none c.no_sequences-total.ensures

pub loop-k-smaller : goal.loop-k-smaller
loop-k-smaller c = omega (arith, c.child_here.ensures.inside c.loop-k-test.true)

pub loop-k-preserved : goal.loop-k-preserved
loop-k-preserved c =
    let test = c.loop-k-test.true in
    adding_more test c.child_here.ensures c.loop-k.invariant c.judge_sequence-x.ensures
    (c.child_here.ensures.inside test) (omega arith) (record { is = λ h. omega (arith, h, c.saturating_add-k.ensures) }) c.add-total.ensures

pub returns-after-loop-k : goal.returns-after-loop-k
returns-after-loop-k c = adding_done c.loop-k-test.false c.child_here.ensures c.loop-k.invariant

pub returns-then-x-at : goal.returns-then-x-at
returns-then-x-at c =
    adding_stuck c.loop-k-test.true c.child_here.ensures c.loop-k.invariant c.judge_sequence-x.ensures c.if-x-at.true
