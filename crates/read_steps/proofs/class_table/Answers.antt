-- `read_steps::class_table` meets its contract: the table's rule, by the tests of all its 256 entries.
use mathlib.Core.Path.{refl}
use Rattle.read_steps.proofs.Classes.{classes_right}
use Rattle.read_steps.proofs.class_table.Goals as goal

pub returns : goal.returns
returns c = classes_right _ refl refl
