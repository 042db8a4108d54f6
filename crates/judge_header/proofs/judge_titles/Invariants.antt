-- `judge_header::judge_titles` meets its contract. The loop's invariant: the fault is the first of the titles seen. The measure is what
-- is left of the text.
use Prim.Native.Nat.{◌-◌}
use lib.ListN.{length}
use Rattle.judge_header.proofs.Sums.{TitlesSeen}
use Rattle.judge_header.proofs.judge_titles.Given as goal

abbrev pub invariant-loop-part : goal.invariant-loop-part
invariant-loop-part v = TitlesSeen v.s v.first v.at v.fault

abbrev pub decreases-loop-part : goal.decreases-loop-part
decreases-loop-part l = length l.s - l.at
