-- `read` calls itself, with the depth falling, for what stands inside an operator. Invariant: the members that are read so far.
use Prim.Native.Nat.{◌-◌}
use lib.ListN.{length}
use Rattle.location_judge.specs.Readings.{operator_of}
use Rattle.location_judge.proofs.Gather.{Run}
use Rattle.location_judge.proofs.judging.+read.Given as goal

abbrev pub decreases-read : goal.decreases-read
decreases-read l = l.depth

abbrev pub invariant-loop-member : goal.invariant-loop-member
invariant-loop-member l = Run l.s l.top (l.depth - 1) l.turn l.at l.list.first (operator_of l.list.operator) l.i l.all

abbrev pub decreases-loop-member : goal.decreases-loop-member
decreases-loop-member l = length l.s - l.i
