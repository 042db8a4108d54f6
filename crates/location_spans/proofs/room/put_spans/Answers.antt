use Rattle.location_spans.proofs.Laying.{laying_start, laying_done, laying_end, laying_next}
use Rattle.location_spans.proofs.room.put_spans.Goals as goal

pub loop-k-init : goal.loop-k-init
loop-k-init c = laying_start c.requires

pub returns-in_default : goal.returns-in_default
returns-in_default c = laying_done c.loop-k.invariant c.loop-k-test.true c.in_default.ensures

pub loop-k-preserved : goal.loop-k-preserved
loop-k-preserved c = laying_next c.loop-k.invariant c.loop-k-test.true c.in-Some.ensures

pub returns : goal.returns
returns c = laying_end c.loop-k.invariant c.loop-k-test.false
