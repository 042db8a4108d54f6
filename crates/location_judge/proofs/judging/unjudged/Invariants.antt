-- Byte by byte. Invariant: those passed have decided nothing but which signs stand since the last comma.
use Rattle.location_judge.proofs.Signs.{Scanned}
use Rattle.location_judge.proofs.judging.unjudged.Given as goal

abbrev pub invariant-loop-b : goal.invariant-loop-b
invariant-loop-b l = Scanned l.s l.b-index l.signed l.ranged
