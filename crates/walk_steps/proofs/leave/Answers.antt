-- `walk_steps::leave` meets its contract.
use Rattle.walk_steps.proofs.Elements.{leave_ends}
use Rattle.walk_steps.proofs.leave.Goals as goal

pub returns : goal.returns
returns c = leave_ends c.close.ensures c.blanks.ensures
