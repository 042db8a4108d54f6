-- Byte by byte. Invariant: n is one more than there are commas among those passed.
use Rattle.location_spans.proofs.Counted.{Counting}
use Rattle.location_spans.proofs.room.count_spans.Given as goal

abbrev pub invariant-loop-b : goal.invariant-loop-b
invariant-loop-b l = Counting l.s l.b-index l.n
