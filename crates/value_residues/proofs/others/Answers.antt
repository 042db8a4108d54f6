use Rattle.std.proofs.Common.{arith}
use Rattle.value_residues.proofs.Counting.{counting_full, counting_done}
use Rattle.value_residues.proofs.others.Goals as goal
use Rattle.value_residues.proofs.others.Goals.{then-loop-i-test+else-n-most, else-loop-i-test}

pub returns-then-n-most-2 : goal.returns-then-n-most-2
returns-then-n-most-2 c =
    elim c.loop-i-test.branch [
      | then-loop-i-test+else-n-most w ↦ absurd (omega (arith, w.if-n-most.false, c.if-n-most-2.true))
      | else-loop-i-test w ↦ counting_done c.loop-i.invariant w.loop-i-test.false c.if-n-most-2.true
    ]

pub returns-else-n-most-2 : goal.returns-else-n-most-2
returns-else-n-most-2 c = counting_full c.loop-i.invariant c.if-n-most-2.false
