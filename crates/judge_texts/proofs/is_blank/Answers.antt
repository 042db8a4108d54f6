-- `judge_texts::is_blank` meets its contract.
use Rattle.judge_texts.proofs.Empties.{blank_told}
use Rattle.judge_texts.proofs.is_blank.Goals as goal

pub returns : goal.returns
returns c = blank_told c.args.p
