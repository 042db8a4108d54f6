-- `ask_found::known_of` meets its contract.
use Rattle.ask_found.proofs.Residues.{knows_found}
use Rattle.ask_found.proofs.known_of.Goals as goal

pub returns : goal.returns
returns c = knows_found c.top_of.ensures
