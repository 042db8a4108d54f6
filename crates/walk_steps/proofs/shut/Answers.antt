-- `walk_steps::shut` meets its contract.
use Rattle.walk_steps.proofs.Places.{nothing_stands}
use Rattle.walk_steps.proofs.shut.Goals as goal

pub returns-then-long : goal.returns-then-long
returns-then-long c = rw c.if-long.true c.leave.ensures

pub returns-else-long : goal.returns-else-long
returns-else-long c = rw c.if-long.false (record { is = λ e d fol. nothing_stands d })
