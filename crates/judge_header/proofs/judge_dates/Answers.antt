-- `judge_header::judge_dates` meets its contract.
use Rattle.paper.specs.Values.{Date}
use Rattle.judge_header.proofs.Sums.{maybe_tried, dates_judged}
use Rattle.judge_header.proofs.judge_dates.Goals as goal

pub returns : goal.returns
returns c =
    dates_judged c.judge_maybe-a.result c.judge_maybe-b.result c.judge_maybe-c.result c.earlier.result
    (maybe_tried 11 Date c.args.produced (λ w ok h. rw (← h.shows) h.says.met) c.judge_maybe-a.ensures)
    (maybe_tried 11 Date c.args.filed (λ w ok h. rw (← h.shows) h.says.met) c.judge_maybe-b.ensures)
    (maybe_tried 11 Date c.args.first (λ w ok h. rw (← h.shows) h.says.met) c.judge_maybe-c.ensures) c.earlier.ensures
    c.earlier-2.ensures
