-- The next span of a walk, by its kind.
use Rattle.location_spans.proofs.Walks.{step_done, step_by}
use Rattle.location_spans.proofs.walking.step.Goals as goal

pub returns-in-Done : goal.returns-in-Done
returns-in-Done c = step_by c.in-Done.is step_done

pub returns-in-Ahead : goal.returns-in-Ahead
returns-in-Ahead c = step_by c.in-Ahead.is c.ahead.ensures

pub returns-in-Behind : goal.returns-in-Behind
returns-in-Behind c = step_by c.in-Behind.is c.behind.ensures
