-- `judge_texts::judge_symbols` meets its contract.
use Rattle.judge_texts.proofs.Sums.{symbols_judged}
use Rattle.judge_texts.proofs.judge_symbols.Goals as goal

pub returns : goal.returns
returns c =
    symbols_judged c.has_defined-enough.result c.has_defined-enough.ensures
    c.unless-a.ensures c.unless-b.ensures c.earlier.ensures
