-- The next span that has residues. Invariant: what was left at the start is left.
use lib.ListN.{length}
use Rattle.location_spans.specs.Walking.{steps_left}
use Rattle.protein_codons.proofs.Readings.{Filling}
use Rattle.protein_codons.proofs.CodingText.fill.Given as goal

abbrev pub invariant-loop-x : goal.invariant-loop-x
invariant-loop-x l = Filling l.self.of.r.now l.self.of.loc.now l.self.of.top l.initial.x l.x

abbrev pub decreases-loop-x : goal.decreases-loop-x
decreases-loop-x l = steps_left (length l.self.of.loc.now) l.x.walk
