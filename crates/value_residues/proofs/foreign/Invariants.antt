-- `value_residues::foreign` meets its contract. The loop's invariant: each byte passed is a symbol of the class.
use Rattle.value_residues.specs.Residues.{Reach}
use Rattle.value_residues.proofs.foreign.Given as goal

abbrev pub invariant-loop-i : goal.invariant-loop-i
invariant-loop-i l = Reach l.w l.class l.from l.i
