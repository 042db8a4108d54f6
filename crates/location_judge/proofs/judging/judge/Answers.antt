-- The verdict on a whole text.
use Rattle.location_judge.proofs.Verdicts.{judge_bad, judge_left, judge_is}
use Rattle.location_judge.proofs.judging.judge.Goals as goal

pub returns-in_err-found : goal.returns-in_err-found
returns-in_err-found c = rw c.from_residual.ensures (judge_bad c.in_err-found.ensures)

pub returns-then-found-s : goal.returns-then-found-s
returns-then-found-s c = judge_left c.in_ok-found.ensures c.if-found-s.true

pub returns : goal.returns
returns c = judge_is c.in_ok-found.ensures c.if-found-s.false
