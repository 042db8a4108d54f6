-- `ask_check::judge` meets its contract: the header, the total and the sequences.
use Rattle.ask_check.proofs.Verdicts.{listing_judged}
use Rattle.ask_check.proofs.judge.Goals as goal

pub returns : goal.returns
returns c =
    listing_judged c.earlier-d.result c.earlier.result c.judge_header-header.ensures c.judge_sequences-b.ensures
    c.bytes_of-total.ensures c.is_number-ok.ensures c.unless-c.ensures c.earlier-d.ensures c.earlier.ensures
