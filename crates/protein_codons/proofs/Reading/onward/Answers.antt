-- The strand's near end is moved.
use Rattle.protein_codons.proofs.Readings.{onward_ahead, onward_behind}
use Rattle.protein_codons.proofs.Reading.onward.Goals as goal

pub returns-then-x : goal.returns-then-x
returns-then-x c = onward_behind c.args.self c.args.k c.requires c.if-x.true

pub returns-else-x : goal.returns-else-x
returns-else-x c = onward_ahead c.args.self c.args.k c.requires c.if-x.false
