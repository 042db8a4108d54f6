-- `walk_steps::seek` meets its contract. The loop's invariant: no byte so far is the one that is looked for.
use Rattle.read_steps.specs.Texts.{Upto}
use Rattle.walk_steps.specs.Stands.{others}
use Rattle.walk_steps.proofs.seek.Given as goal

abbrev pub invariant-loop-i : goal.invariant-loop-i
invariant-loop-i l = Upto (others l.stop) l.s l.at l.i
