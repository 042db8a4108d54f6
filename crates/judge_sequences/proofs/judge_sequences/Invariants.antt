-- `judge_sequences::judge_sequences` meets its contract. The loop's invariant: what has been seen is added up. The measure is what is
-- left of the text.
use Prim.Native.Nat.{◌-◌}
use lib.ListN.{length}
use Rattle.judge_sequences.proofs.Totals.{Adding}
use Rattle.judge_sequences.proofs.judge_sequences.Given as goal

abbrev pub invariant-loop-k : goal.invariant-loop-k
invariant-loop-k l = Adding l.s l.first l.at l.total

abbrev pub decreases-loop-k : goal.decreases-loop-k
decreases-loop-k l = length l.s - l.at
