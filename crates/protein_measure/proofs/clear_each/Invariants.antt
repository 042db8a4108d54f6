-- Codon by codon. Invariant: those passed are no stop.
use Rattle.protein_codons.specs.Letters.{letters_in, Clear}
use Rattle.protein_measure.proofs.clear_each.Given as goal

abbrev pub invariant-loop-k : goal.invariant-loop-k
invariant-loop-k l = Clear l.x.span.low l.x.span.high (letters_in l.x) l.k
