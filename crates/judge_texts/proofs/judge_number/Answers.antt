-- `judge_texts::judge_number` meets its contract.
use Rattle.judge_texts.proofs.Sums.{number_judged}
use Rattle.judge_texts.proofs.judge_number.Goals as goal

pub returns : goal.returns
returns c = number_judged c.bytes_of.ensures c.is_number-ok.ensures c.unless.ensures
