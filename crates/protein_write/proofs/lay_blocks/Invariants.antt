-- Block by block. Invariant: the letters of those passed are laid.
use Prim.Native.Nat.{◌*◌}
use Rattle.protein_codons.specs.Letters.{letters_in}
use Rattle.protein_write.specs.Writing.{LaysLettersOn}
use Rattle.protein_write.proofs.lay_blocks.Given as goal

abbrev pub invariant-loop-block : goal.invariant-loop-block
invariant-loop-block l = LaysLettersOn (letters_in l.x) l.from 0 (64 * l.block) l.initial.out l.out
