-- `ask_answers::hand_lent` meets its contract.
use Rattle.ask_answers.specs.Handed.{HandsLent}
use Rattle.ask_answers.proofs.hand_lent.Goals as goal

pub returns-in-Ok : goal.returns-in-Ok
returns-in-Ok c = rw c.in-Ok.is HandsLent.lent

pub returns-in-Err : goal.returns-in-Err
returns-in-Err c = rw c.in-Err.is (HandsLent.refused c.hand_refusal.ensures)
