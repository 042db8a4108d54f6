-- `walk_steps::close` meets its contract.
use Rattle.walk_steps.proofs.Leaves.{close_ends}
use Rattle.walk_steps.proofs.close.Goals as goal

pub returns : goal.returns
returns c = close_ends c.past.ensures c.past-2.ensures c.blanks.ensures c.past-3.ensures
