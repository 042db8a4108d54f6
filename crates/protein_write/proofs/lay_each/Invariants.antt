-- Codon by codon. Invariant: the letters of those passed are laid.
use Rattle.protein_codons.specs.Letters.{letters_in}
use Rattle.protein_write.specs.Writing.{LaysLettersOn}
use Rattle.protein_write.proofs.lay_each.Given as goal

abbrev pub invariant-loop-k : goal.invariant-loop-k
invariant-loop-k g l = LaysLettersOn (letters_in l.x) l.from l.start l.k l.initial.out l.out
