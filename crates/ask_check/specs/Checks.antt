-- What is promised of the judgement of a text that is laid out.
use Rattle.std.specs.Prelude.{ℕ, ◌≤◌, List, length}
use Rattle.paper.specs.Tree.{Listing}
use Rattle.paper.specs.Layout.{LaidOut}
use Rattle.paper.specs.Rules.{Broken}
use Rattle.paper.specs.Answers.{limit, Counts}
use Rattle.judge_faults.specs.Sets.{Firsts}
use Rattle.judge_sequences.specs.declared.Total.{Total}

-- the first of the rules on values that is broken; and the counts, where none is
pub record IsJudged (l : Listing ℕ) (r : Total) : Type 0 where
  pub fault : Firsts (Broken l) r.fault
  pub counted : ((n p : ℕ) → ¬ Broken l n p) → Counts l r.figures.total r.figures.skipped r.figures.features r.figures.judged r.figures.unjudged

pub record JudgesListing (w : List ℕ) (r : Total) : Type 0 where
  pub says : (l : Listing ℕ) → length w ≤ limit → LaidOut l w → IsJudged l r
