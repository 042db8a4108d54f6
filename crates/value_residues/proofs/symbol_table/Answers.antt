-- `value_residues::symbol_table` meets its contract: the table's rule, by two tests of all its 256 entries.
use Rattle.std.proofs.Common.{refl}
use Rattle.value_residues.proofs.Residues.{symbols_right}
use Rattle.value_residues.proofs.symbol_table.Goals as goal

pub returns : goal.returns
returns c = symbols_right _ refl refl
