-- `ask_answers::hand_qualifier` meets its contract.
use Rattle.ask_answers.specs.Handed.{HandsQualifier}
use Rattle.ask_answers.proofs.hand_qualifier.Goals as goal

pub returns-in-Ok : goal.returns-in-Ok
returns-in-Ok c = rw (c.in-Ok.is, c.unwrap_or-value.ensures, c.no_stretch.ensures, c.from.ensures, c.is_some.ensures) HandsQualifier.qualifier

pub returns-in-Err : goal.returns-in-Err
returns-in-Err c = rw c.in-Err.is (HandsQualifier.refused c.hand_refusal.ensures)
