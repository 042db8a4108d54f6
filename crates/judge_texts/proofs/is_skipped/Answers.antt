-- `judge_texts::is_skipped` meets its contract.
use Rattle.judge_texts.proofs.Sums.{skipped_told}
use Rattle.judge_texts.proofs.is_skipped.Goals as goal

pub returns : goal.returns
returns c = skipped_told c.same.result c.bytes_of.ensures c.same.ensures
