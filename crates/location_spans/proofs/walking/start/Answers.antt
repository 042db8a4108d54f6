-- The start of a walk, by the words at the front.
use Rattle.location_spans.proofs.Starting.{start_turned, start_back, start_plain, start_list}
use Rattle.location_spans.proofs.walking.start.Goals as goal

pub returns-in-Some : goal.returns-in-Some
returns-in-Some c = start_back c.complement_at.ensures c.if-complement_at.true c.in-Some.ensures

pub returns-in-Some-list_at : goal.returns-in-Some-list_at
returns-in-Some-list_at c = start_list c.complement_at.ensures c.if-complement_at.false c.in-Some-list_at.ensures

pub returns-in_default : goal.returns-in_default
returns-in_default c = start_turned c.complement_at.ensures c.if-complement_at.true c.in_default.ensures

pub returns-in_default-list_at : goal.returns-in_default-list_at
returns-in_default-list_at c = start_plain c.complement_at.ensures c.if-complement_at.false c.in_default-list_at.ensures
