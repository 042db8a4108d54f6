-- `ask_found::sequence_answer` meets its contract.
use Rattle.ask_found.proofs.Located.{sequence_located}
use Rattle.ask_found.proofs.sequence_answer.Goals as goal

pub returns : goal.returns
returns c = sequence_located c.stretch_of.ensures
