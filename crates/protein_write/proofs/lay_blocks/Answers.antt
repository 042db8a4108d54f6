use native.Mathlib.Omega.{arith}
use Rattle.protein_codons.specs.Letters.{letters_in}
use Rattle.protein_write.proofs.Runs.{lays_none, lays_are}
use Rattle.protein_write.proofs.lay_blocks.Goals as goal

pub loop-block-init : goal.loop-block-init
loop-block-init c = lays_none (letters_in c.args.x.now) c.args.from 0 _

pub returns : goal.returns
returns c = (omega arith, lays_are c.loop-block.invariant (omega arith))
