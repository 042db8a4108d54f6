-- L is the size of the residues.
use mathlib.Core.Path.{refl}
use Rattle.ask_found.proofs.Residues.{size_is_top}
use Rattle.ask_found.proofs.top_of.Goals as goal

pub returns : goal.returns
returns c = size_is_top c.stretch_of.ensures refl
