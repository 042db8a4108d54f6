-- `ask_lookups::known_of` meets its contract.

use Rattle.ask_lookups.proofs.known_of.Goals as goal

pub returns : goal.returns
returns c = record { says = λ q e short i. c.known_of.ensures.says q short i.moltype i.residues }
