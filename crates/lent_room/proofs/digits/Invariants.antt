-- From the last digit to the first. Invariant: those done stand at the end.
use Rattle.lent_room.proofs.Numerals.{Digits}
use Rattle.lent_room.proofs.digits.Given as goal

abbrev pub invariant-loop-left : goal.invariant-loop-left
invariant-loop-left l = Digits l.n l.left l.k l.table

abbrev pub decreases-loop-left : goal.decreases-loop-left
decreases-loop-left l = l.left
