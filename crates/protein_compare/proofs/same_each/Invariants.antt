-- Codon by codon. Invariant: those passed are the value's letters.
use Rattle.protein_codons.specs.Letters.{letters_in}
use Rattle.protein_compare.specs.Comparing.{Same}
use Rattle.protein_compare.proofs.same_each.Given as goal

abbrev pub invariant-loop-k : goal.invariant-loop-k
invariant-loop-k g l = Same l.x.span.low l.x.span.high (letters_in l.x) l.value l.from l.k
