-- `value_residues::same_of_64` meets its contract. The loop's invariant: of the bytes passed so many are `b`.
use Rattle.value_residues.proofs.Counting.{Summed}
use Rattle.value_residues.proofs.same_of_64.Given as goal

abbrev pub invariant-loop-j : goal.invariant-loop-j
invariant-loop-j l = Summed l.w l.at l.b l.same l.amp l.j
