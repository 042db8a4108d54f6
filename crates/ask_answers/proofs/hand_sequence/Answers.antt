-- `ask_answers::hand_sequence` meets its contract.
use Rattle.ask_answers.specs.Handed.{HandsSequence}
use Rattle.ask_answers.proofs.hand_sequence.Goals as goal

pub returns-in-Ok : goal.returns-in-Ok
returns-in-Ok c = rw (c.in-Ok.is, c.kind_number.ensures) HandsSequence.sequence

pub returns-in-Err : goal.returns-in-Err
returns-in-Err c = rw c.in-Err.is (HandsSequence.refused c.hand_refusal.ensures)
