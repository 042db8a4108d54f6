-- `value_residues::characters` meets its contract.
use Rattle.value_residues.proofs.Counting.{each_character}
use Rattle.value_residues.proofs.characters.Goals as goal

pub returns : goal.returns
returns c = each_character c.others.ensures
