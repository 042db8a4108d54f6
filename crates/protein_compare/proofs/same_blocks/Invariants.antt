-- Block by block. Invariant: the codons passed are the value's letters.
use Prim.Native.Nat.{◌*◌}
use Rattle.protein_codons.specs.Letters.{letters_in}
use Rattle.protein_compare.specs.Comparing.{Same}
use Rattle.protein_compare.proofs.same_blocks.Given as goal

abbrev pub invariant-loop-block : goal.invariant-loop-block
invariant-loop-block l = Same l.x.span.low l.x.span.high (letters_in l.x) l.value l.from (64 * l.block)
