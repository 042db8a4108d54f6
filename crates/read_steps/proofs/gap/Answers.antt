-- `read_steps::gap` meets its contract: a blank, and then any blanks, are a gap.
use Rattle.read_steps.proofs.Joins.{gap_reads}
use Rattle.read_steps.proofs.gap.Goals as goal

pub returns : goal.returns
returns c = gap_reads c.blank.ensures c.blanks.ensures
