use Rattle.std.proofs.Common.{not, ap, arith, eq-eqb, ne_eqb}
use Rattle.read_steps.proofs.Scans.{upto_none, upto_more}
use Rattle.walk_steps.specs.Stands.{others}
use Rattle.walk_steps.proofs.seek.Goals as goal

pub loop-i-init : goal.loop-i-init
loop-i-init c = upto_none (others c.args.stop) c.args.s.now c.args.at

pub returns-then-s-i : goal.returns-then-s-i
returns-then-s-i c =
    record { onward = c.loop-i.auto.i; each = c.loop-i.invariant; ends = λ h. ap not (eq-eqb _ _ c.if-s-i.true) }

pub loop-i-preserved : goal.loop-i-preserved
loop-i-preserved c =
    upto_more (others c.args.stop) c.args.s.now c.args.at c.loop-i.i c.loop-i.invariant (omega arith) (ap not (ne_eqb _ _ c.if-s-i.false))

pub returns : goal.returns
returns c =
    record {
      onward = c.requires.before;
      each = λ k h j. c.loop-i.invariant k h (omega (arith, j));
      ends = λ h. absurd (omega (arith, h));
    }
