use native.Mathlib.Omega.{arith}
use mathlib.Core.Path.{refl}
use Rattle.protein_codons.specs.Letters.{letters_in}
use Rattle.protein_compare.proofs.Runs.{same_start, same_are}
use Rattle.protein_compare.proofs.same_blocks.Goals as goal

pub loop-block-init : goal.loop-block-init
loop-block-init c = same_start (letters_in c.args.x.now) (omega arith) (omega arith)

pub same_each-n-requires : goal.same_each-n-requires
same_each-n-requires c =
    record {
      start_le_end = omega arith;
      end_bound = omega arith;
      end_in_bounds = omega arith;
      plain = λ e. (refl, c.plain_block.ensures c.if-not-plain_block.false);
      same = c.loop-block.invariant;
    }

pub loop-block-preserved : goal.loop-block-preserved
loop-block-preserved c = same_are c.same_each-n.ensures (omega (arith, c.if-n-k.false))

pub returns : goal.returns
returns c = same_are c.loop-block.invariant (omega arith)
