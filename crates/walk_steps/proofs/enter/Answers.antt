-- `walk_steps::enter` meets its contract.
use Rattle.walk_steps.proofs.Elements.{enter_ends}
use Rattle.walk_steps.proofs.enter.Goals as goal

pub returns : goal.returns
returns c = enter_ends c.blanks.ensures c.past.ensures c.blanks-2.ensures
