-- `trial::trial_location` meets its contract: the answer of `judge_location`, in numbers.
use Rattle.trial.specs.Numbers.{LocationNumbers}
use Rattle.trial.proofs.Answers.{flagged}
use Rattle.trial.proofs.Located.{judged}
use Rattle.trial.proofs.trial_location.Goals as goal

pub returns-in-None : goal.returns-in-None
returns-in-None c = LocationNumbers.bad (judged c.judge_location.ensures c.in-None.is)

pub returns-in-Some : goal.returns-in-Some
returns-in-Some c =
    let facts = c.in-Some.facts in
    LocationNumbers.is facts (judged c.judge_location.ensures c.in-Some.is) (flagged facts.wrong c.from.ensures) (flagged facts.complemented c.from-in-Some.ensures)
    (flagged facts.unjudged c.from-in-Some-2.ensures)
