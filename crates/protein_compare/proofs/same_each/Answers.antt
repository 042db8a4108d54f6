use native.Mathlib.Omega.{arith}
use Rattle.protein_codons.proofs.Blocks.{plain_nth}
use Rattle.protein_compare.proofs.Runs.{same_more, same_are}
use Rattle.protein_compare.proofs.same_each.Goals as goal

pub letter_at-a-requires : goal.letter_at-a-requires
letter_at-a-requires g c =
    record {
      k_bound = omega arith;
      plain = λ e.
          let x = c.args.x.now in
          let p = c.requires.plain e in
          plain_nth x.r.now x.span.low x.span.high x.span.turned c.args.start (omega (arith, p.0)) p.1 c.loop-k.k (omega arith) (omega (arith, p.0));
    }

pub loop-k-preserved : goal.loop-k-preserved
loop-k-preserved g c = same_more c.loop-k.invariant (omega arith) (omega arith) c.letter_at-a.ensures c.if-a-eq42.false c.if-value-from.false

pub returns : goal.returns
returns g c = same_are c.loop-k.invariant (omega arith)
