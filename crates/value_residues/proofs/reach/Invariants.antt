-- `value_residues::reach` meets its contract. The loop's invariant: each byte passed is a symbol of the class. The measure is what is
-- left.
use Rattle.value_residues.specs.Residues.{Reach}
use Rattle.std.proofs.Common.{◌-◌, ◌≤◌}
use Rattle.value_residues.proofs.reach.Given as goal

abbrev pub invariant-loop-i : goal.invariant-loop-i
invariant-loop-i l = (l.i ≤ l.end) × Reach l.w l.class l.from l.i

abbrev pub decreases-loop-i : goal.decreases-loop-i
decreases-loop-i l = l.end - l.i
