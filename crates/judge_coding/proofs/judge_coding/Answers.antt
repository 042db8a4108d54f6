-- `judge_coding::judge_coding` meets its contract.
use mathlib.Core.Path.{subst}
use Rattle.paper.specs.Tree.{qualifiers_of}
use Rattle.paper.specs.Rules.{absent}
use Rattle.judge_qualifiers.specs.Qualifiers.{FrameIs}
use Rattle.judge_qualifiers.proofs.Frames.{start_one}
use Rattle.judge_coding.proofs.Regions.{coding_framed, coding_wrong}
use Rattle.judge_coding.proofs.judge_coding.Goals as goal
use Rattle.judge_coding.proofs.judge_coding.Goals.{in-Unstated, in-Stated}

pub returns-in-Wrong : goal.returns-in-Wrong
returns-in-Wrong c = coding_wrong c.is_unjudged-unjudged.ensures c.in-Wrong.is

pub returns : goal.returns
returns c =
    let leaves = c.is_unjudged-unjudged.ensures in
    let judged = c.region_fault-fault.ensures in
    elim c.match-noted.branch [
      | in-Unstated w ↦ coding_framed leaves (λ f h. rw w.start-is (absent (subst (FrameIs (qualifiers_of f)) w.in-Unstated.is h))) judged
      | in-Stated w ↦ coding_framed leaves (λ f h. rw w.start-is (start_one f (subst (FrameIs (qualifiers_of f)) w.in-Stated.is h))) judged
    ]
