-- Sequence by sequence. Invariant: contents and bodies of those passed are laid. The measure is what is left of the text.
use Rattle.std.proofs.Common.{◌-◌, length}
use Rattle.index_walk.proofs.Whole.{Indexing}
use Rattle.index_walk.proofs.lay_sequences.Given as goal

abbrev pub invariant-loop-pass : goal.invariant-loop-pass
invariant-loop-pass l = Indexing l.pass l.s l.first l.bodies l.initial.contents l.given l.initial.room l.contents l.laid l.start l.at l.room

abbrev pub decreases-loop-pass : goal.decreases-loop-pass
decreases-loop-pass l = length l.s - l.at
