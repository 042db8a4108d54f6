-- `ask_found::qualifier_answer` meets its contract.
use Rattle.ask_found.proofs.Located.{qualifier_located}
use Rattle.ask_found.proofs.qualifier_answer.Goals as goal

pub returns : goal.returns
returns c = qualifier_located c.stretch_of.ensures c.value_stretch.ensures
