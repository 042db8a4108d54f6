use Prim.Native.Nat.{◌+◌}
use native.Mathlib.Omega.{arith}
use Rattle.protein_code.specs.Tables.{code_of}
use Rattle.protein_codons.specs.Letters.{letters_in}
use Rattle.protein_codons.proofs.Readings.{span_within}
use Rattle.protein_codons.proofs.Blocks.{plain_nth}
use Rattle.protein_write.proofs.Runs.{lays_none, lays_more, lays_are}
use Rattle.protein_write.proofs.lay_each.Goals as goal

pub loop-k-init : goal.loop-k-init
loop-k-init g c = lays_none (letters_in c.args.x.now) c.args.from c.args.start _

pub letter_at-requires : goal.letter_at-requires
letter_at-requires g c =
    record {
      k_bound = omega arith;
      plain = λ e.
          let x = c.args.x.now in
          let p = c.requires.plain e in
          plain_nth x.r.now x.span.low x.span.high x.span.turned c.args.start (omega (arith, p.0)) p.1 c.loop-k.k (omega arith) (omega (arith, p.0));
    }

pub loop-k-preserved : goal.loop-k-preserved
loop-k-preserved g c =
    let x = c.args.x.now in
    let k = c.loop-k.k in
    let whole = span_within (code_of x.code.now) x.r.now x.span.low x.span.high x.span.turned (k + 1) (omega arith) x.inside in
    lays_more (letters_in x) c.args.from c.args.start _ c.loop-k.invariant (omega (arith, whole)) c.letter_at.ensures

pub returns : goal.returns
returns g c = lays_are c.loop-k.invariant (omega arith)
