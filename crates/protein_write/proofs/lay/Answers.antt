-- The blocks, and the codons behind them.
use native.Mathlib.Omega.{arith}
use Rattle.protein_codons.specs.Letters.{letters_in}
use Rattle.protein_write.proofs.Runs.{lays_join, lays_all}
use Rattle.protein_write.proofs.lay.Goals as goal

pub returns : goal.returns
returns c =
    let l = letters_in c.args.x.now in
    lays_all {l = l} (lays_join {l = l} c.lay_blocks-k.ensures.1 c.lay_each.ensures) (omega arith) (omega arith)
