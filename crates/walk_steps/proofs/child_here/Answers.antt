-- `walk_steps::child_here` meets its contract: of `<` and a name, and `</`, the second byte differs.
use Rattle.walk_steps.proofs.Elements.{child_tells}
use Rattle.walk_steps.proofs.child_here.Goals as goal

pub returns-then-at-s : goal.returns-then-at-s
returns-then-at-s c = child_tells c.peek.ensures c.if-at-s.true
