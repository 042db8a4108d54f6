-- `judge_coding::Codons::translations` meets its contract.
use native.Mathlib.Omega.{arith}
use Rattle.judge_coding.proofs.Rights.{checking_none, checking_next, checking_stuck, checking_done}
use Rattle.judge_coding.proofs.Codons.translations.Goals as goal

pub loop-name-init : goal.loop-name-init
loop-name-init c = checking_none

pub loop-name-smaller : goal.loop-name-smaller
loop-name-smaller c = omega (arith, c.child_here.ensures.inside c.loop-name-test.true)

pub loop-name-preserved : goal.loop-name-preserved
loop-name-preserved c =
    rw c.anew.ensures
    (checking_next c.child_here.ensures c.loop-name.invariant c.loop-name-test.true c.qualifier-value.ensures c.check-fault.ensures)

pub returns-after-loop-name : goal.returns-after-loop-name
returns-after-loop-name c = checking_done c.child_here.ensures c.loop-name.invariant c.loop-name-test.false

pub returns-then-next-at : goal.returns-then-next-at
returns-then-next-at c =
    checking_stuck c.child_here.ensures c.loop-name.invariant c.loop-name-test.true c.qualifier-value.ensures c.if-next-at.true
