use Rattle.std.proofs.Common.{arith}
use Rattle.value_residues.proofs.Counting.{summed_next}
use Rattle.value_residues.proofs.same_of_64.Goals as goal

pub loop-j-preserved : goal.loop-j-preserved
loop-j-preserved c =
    summed_next c.loop-j.invariant (omega (arith, c.requires, c.loop-j-test.true)) c.loop-j-test.true c.equal-same.ensures c.equal-amp.ensures
