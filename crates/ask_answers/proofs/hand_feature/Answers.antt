-- `ask_answers::hand_feature` meets its contract.
use Rattle.ask_answers.specs.Handed.{HandsFeature}
use Rattle.ask_answers.proofs.hand_feature.Goals as goal

pub returns-in-Ok : goal.returns-in-Ok
returns-in-Ok c = rw (c.in-Ok.is, c.operator_number.ensures) HandsFeature.feature

pub returns-in-Err : goal.returns-in-Err
returns-in-Err c = rw c.in-Err.is (HandsFeature.refused c.hand_refusal.ensures)
