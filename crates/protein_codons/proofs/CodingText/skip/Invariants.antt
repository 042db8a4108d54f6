-- Residue by residue. Invariant: k residues are skipped.
use Rattle.protein_codons.specs.Reading.{Skips}
use Rattle.protein_codons.proofs.CodingText.skip.Given as goal

abbrev pub invariant-loop-k : goal.invariant-loop-k
invariant-loop-k l = Skips l.self.of.r.now l.self.of.loc.now l.self.of.top l.initial.x l._k l.x
