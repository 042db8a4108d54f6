-- `trial::trial_spans` meets its contract: the verdict, or the answer of `spans`, in numbers.
use Rattle.trial.specs.Numbers.{SpansNumbers}
use Rattle.trial.proofs.Located.{judged, spans_wrong, spans_short, spans_are}
use Rattle.trial.proofs.trial_spans.Goals as goal

pub returns-in_default : goal.returns-in_default
returns-in_default c = SpansNumbers.bad (judged c.judge_location.ensures c.in_default.is)

pub returns-then-facts : goal.returns-then-facts
returns-then-facts c = spans_wrong (judged c.judge_location.ensures c.in-Some.is) c.if-facts.true

pub returns-in_default-spans : goal.returns-in_default-spans
returns-in_default-spans c = spans_short (judged c.judge_location.ensures c.in-Some.is) c.if-facts.false c.spans.ensures c.in_default-spans.is

pub returns : goal.returns
returns c = spans_are (judged c.judge_location.ensures c.in-Some.is) c.if-facts.false c.spans.ensures c.in-Some-spans.is c.operator_number.ensures
