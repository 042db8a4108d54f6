-- The first codon, the blocks behind it, and the codons behind them.
use native.Mathlib.Omega.{arith}
use Rattle.protein_codons.specs.Letters.{letters_in}
use Rattle.protein_codons.proofs.Stops.{clear_start}
use Rattle.protein_measure.proofs.clear.Goals as goal

pub clear_each-first-requires : goal.clear_each-first-requires
clear_each-first-requires c =
    record { from_le_end = omega arith; end_bound = omega arith; clear = clear_start (letters_in c.args.x.now) c.args.x.now.order }
