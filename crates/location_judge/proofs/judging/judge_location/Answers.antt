-- `location_judge::judging::judge_location` meets its contract.
use Rattle.location_judge.proofs.Listed.{part_judged}
use Rattle.location_judge.proofs.judging.judge_location.Goals as goal

pub returns : goal.returns
returns c = part_judged c.bytes_of.ensures c.judge.ensures
