-- A number, byte by byte. Invariant: what is kept of the digits so far.
use Rattle.location_judge.proofs.Digits.{Counted}
use Rattle.location_judge.proofs.pieces.number.Given as goal

abbrev pub invariant-loop-i : goal.invariant-loop-i
invariant-loop-i l = Counted l.s l.at l.i l.value
