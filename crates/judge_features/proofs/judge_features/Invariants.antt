-- `judge_features::judge_features` meets its contract. The loop's invariant: what has been seen is added up. The measure is what is left
-- of the text.
use Prim.Native.Nat.{◌-◌}
use lib.ListN.{length}
use Rattle.judge_features.proofs.Sums.{Adding}
use Rattle.judge_features.proofs.judge_features.Given as goal

abbrev pub invariant-loop-known : goal.invariant-loop-known
invariant-loop-known l = Adding l.s l.first l.at l.known l.tally

abbrev pub decreases-loop-known : goal.decreases-loop-known
decreases-loop-known l = length l.s - l.at
