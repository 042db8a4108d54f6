-- Block by block. Invariant: those passed have no stop.
use Prim.Native.Nat.{◌+◌, ◌*◌}
use Rattle.protein_codons.specs.Letters.{letters_in, Clear}
use Rattle.protein_measure.proofs.clear_blocks.Given as goal

abbrev pub invariant-loop-block : goal.invariant-loop-block
invariant-loop-block l = Clear l.x.span.low l.x.span.high (letters_in l.x) (l.from + 64 * l.block)
