-- The spans that are left of a walk, one after another. Invariant: those done stand at the front, and the others are left.
use Rattle.location_spans.proofs.Laying.{Laying}
use Rattle.location_spans.proofs.room.put_spans.Given as goal

abbrev pub invariant-loop-k : goal.invariant-loop-k
invariant-loop-k l = Laying l.s l.top l.initial.walk l.count l.initial.out l.out l.walk l.k
