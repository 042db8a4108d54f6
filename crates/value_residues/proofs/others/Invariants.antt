-- `value_residues::others` meets its contract. The loop's invariant: those that begin before `i` and those that begin from there on are
-- all. The measure is what is left.
use Rattle.std.proofs.Common.{◌-◌, length}
use Rattle.value_residues.proofs.Counting.{Counting}
use Rattle.value_residues.proofs.others.Given as goal

abbrev pub invariant-loop-i : goal.invariant-loop-i
invariant-loop-i l = Counting l.w l.but l.n l.i

abbrev pub decreases-loop-i : goal.decreases-loop-i
decreases-loop-i l = length l.w - l.i
