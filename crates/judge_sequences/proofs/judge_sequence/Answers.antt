-- `judge_sequences::judge_sequence` meets its contract: skipped or not.
use Rattle.judge_sequences.proofs.Ones.{skipped_one, judged_one}
use Rattle.judge_sequences.proofs.judge_sequence.Goals as goal

pub returns-then-is_skipped : goal.returns-then-is_skipped
returns-then-is_skipped c =
    let sequence = c.sequence-found in
    let judge-number = c.judge_number-a in
    skipped_one sequence.ensures judge-number.ensures c.is_skipped.ensures c.earlier.result
    c.if-is_skipped.true c.is_empty-ok.ensures c.unless-b.ensures c.earlier.ensures

pub returns : goal.returns
returns c =
    let sequence = c.sequence-found in
    let judge-number = c.judge_number-a in
    let is_skipped_lem = c.is_skipped in
    let if1 = c.if-is_skipped in
    judged_one sequence.ensures judge-number.ensures is_skipped_lem.ensures c.earlier-d.result c.earlier-2.result
    if1.false c.known_of-known.ensures c.judge_texts-b.ensures
    c.judge_table-c.ensures c.earlier-d.ensures c.earlier-2.ensures
