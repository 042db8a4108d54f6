-- `value_residues::has_defined` meets its contract.
use Rattle.value_residues.proofs.Counting.{defined_told}
use Rattle.value_residues.proofs.has_defined.Goals as goal

pub returns : goal.returns
returns c = defined_told c.others.ensures
