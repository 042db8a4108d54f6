-- The tests of the block's residues.
use Prim.Native.Nat.{ℕ}
use native.Mathlib.Omega.{arith}
use mathlib.Core.Path.{subst}
use borrow.Author.Tests.{eqb-true}
use Rattle.protein_blocks.specs.Blocks.{AllPlain}
use Rattle.protein_codons.proofs.Span.plain_block.Goals as goal

pub returns : goal.returns
returns c =
    λ e.
    let at = c.block_at-at.ensures.0 in
    record {
      room = omega (arith, at, c.block_at-at.ensures.1);
      plain = subst (λ (at : ℕ). AllPlain c.args.r.now at 192) at (c.strange.ensures (eqb-true c.strange.result 0 e));
    }
