-- `judge_header::judge_offices` meets its contract.
use Rattle.paper.specs.Values.{Two, is_upper}
use Rattle.judge_header.proofs.Sums.{maybe_tried, offices_judged}
use Rattle.judge_header.proofs.judge_offices.Goals as goal

pub returns : goal.returns
returns c =
    offices_judged c.judge_maybe-a.result c.judge_maybe-b.result
    (maybe_tried 12 (Two is_upper) c.args.office (λ w ok h. rw (← h.shows) h.says.met) c.judge_maybe-a.ensures)
    (maybe_tried 12 (Two is_upper) c.args.first (λ w ok h. rw (← h.shows) h.says.met) c.judge_maybe-b.ensures) c.earlier.ensures
