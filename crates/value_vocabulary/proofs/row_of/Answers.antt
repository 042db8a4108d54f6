-- `value_vocabulary::row_of` meets its contract, by kinds.
use mathlib.Core.Path.{sym, ◌∙◌}
use Rattle.value_vocabulary.proofs.Keyed.{finds_acid, finds_base}
use Rattle.value_vocabulary.proofs.row_of.Goals as goal

pub returns-then-is_acid : goal.returns-then-is_acid
returns-then-is_acid c = finds_acid c.requires c.args.kind (sym c.is_acid.ensures ∙ c.if-is_acid.true) c.row_in.ensures

pub returns-else-is_acid : goal.returns-else-is_acid
returns-else-is_acid c = finds_base c.requires c.args.kind (sym c.is_acid.ensures ∙ c.if-is_acid.false) c.row_in-else-is_acid.ensures
