-- `ask_answers::hand_index_verdict` meets its contract.
use Rattle.ask_answers.specs.Handed.{HandsIndexVerdict}
use Rattle.ask_answers.proofs.hand_index_verdict.Goals as goal

pub returns-in-Ok : goal.returns-in-Ok
returns-in-Ok c = rw c.in-Ok.is HandsIndexVerdict.belongs

pub returns-in-Err : goal.returns-in-Err
returns-in-Err c = rw c.in-Err.is (HandsIndexVerdict.refused c.hand_refusal.ensures)
