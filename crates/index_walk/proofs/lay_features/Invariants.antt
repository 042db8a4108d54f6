-- Feature by feature. Invariant: those passed are laid. The measure is what is left of the text.
use Rattle.std.proofs.Common.{◌-◌, length}
use Rattle.index_walk.proofs.Bodies.{Featuring}
use Rattle.index_walk.proofs.lay_features.Given as goal

abbrev pub invariant-loop-pass : goal.invariant-loop-pass
invariant-loop-pass l = Featuring l.pass l.s l.first l.initial.laid l.given l.initial.room l.at l.laid l.size l.room

abbrev pub decreases-loop-pass : goal.decreases-loop-pass
decreases-loop-pass l = length l.s - l.at
