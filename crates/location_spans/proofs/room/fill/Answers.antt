-- The spans of a location, or that they have no room.
use Rattle.location_spans.proofs.Laying.{spans_short, spans_are}
use Rattle.location_spans.proofs.room.fill.Goals as goal

pub returns-then-out-count : goal.returns-then-out-count
returns-then-out-count c = spans_short c.count_spans-count.ensures c.args.out.now c.if-out-count.true

pub returns : goal.returns
returns c = spans_are c.count_spans-count.ensures c.args.out.now c.if-out-count.false c.start-operator.ensures c.put_spans.ensures
