-- `judge_source::judge_source` meets its contract: the earlier of rules 22 and 23.
use Rattle.judge_source.proofs.Counts.{source_judged}
use Rattle.judge_source.proofs.judge_source.Goals as goal

pub returns : goal.returns
returns c =
    let is-once = c.is_once in
    let unless = c.unless-a in
    source_judged unless.result c.unless-b.result is-once.ensures unless.ensures
    c.bytes_of.ensures c.is_whole-whole.ensures c.unless-b.ensures
    c.earlier.ensures
