-- `ask_answers::hand_verdict` meets its contract.
use Rattle.ask_answers.specs.Handed.{HandsVerdict}
use Rattle.ask_answers.proofs.hand_verdict.Goals as goal

pub returns-in-Ok : goal.returns-in-Ok
returns-in-Ok c = rw c.in-Ok.is HandsVerdict.accepted

pub returns-in-Err : goal.returns-in-Err
returns-in-Err c = rw c.in-Err.is (HandsVerdict.refused c.hand_refusal.ensures)
