-- `judge_header::judge_languages` meets its contract.
use Rattle.paper.specs.Values.{Two, is_lower}
use Rattle.judge_header.proofs.Sums.{maybe_tried, languages_judged}
use Rattle.judge_header.proofs.judge_languages.Goals as goal

pub returns : goal.returns
returns c =
    languages_judged c.judge_maybe-a.result c.judge_maybe-b.result c.earlier.result
    (maybe_tried 13 (Two is_lower) c.args.applicant (λ w ok h. rw (← h.shows) h.says.met) c.judge_maybe-a.ensures)
    (maybe_tried 13 (Two is_lower) c.args.inventor (λ w ok h. rw (← h.shows) h.says.met) c.judge_maybe-b.ensures)
    c.judge_titles-c.ensures c.earlier.ensures c.earlier-2.ensures
