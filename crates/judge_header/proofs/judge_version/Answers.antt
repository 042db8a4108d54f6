-- `judge_header::judge_version` meets its contract.
use Rattle.judge_header.proofs.Sums.{version_judged}
use Rattle.judge_header.proofs.judge_version.Goals as goal

pub returns : goal.returns
returns c = version_judged c.same-ok.result c.bytes_of.ensures c.same-ok.ensures c.unless.ensures
