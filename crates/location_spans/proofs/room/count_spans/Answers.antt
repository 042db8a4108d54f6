use Rattle.location_spans.proofs.Counted.{counting_all}
use Rattle.location_spans.proofs.room.count_spans.Goals as goal

pub returns : goal.returns
returns c = counting_all c.loop-b.invariant c.loop-b-test.false
