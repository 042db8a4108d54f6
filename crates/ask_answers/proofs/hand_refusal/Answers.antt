-- `ask_answers::hand_refusal` meets its contract.
use Rattle.ask_answers.specs.Handed.{HandsRefusal}
use Rattle.ask_answers.proofs.hand_refusal.Goals as goal

pub returns : goal.returns
returns c = HandsRefusal.refusal c.narrow.ensures
