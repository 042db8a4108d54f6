use Rattle.std.proofs.Common.{sym, ◌∙◌, arith}
use Rattle.paper.specs.Bytes.{is_blank}
use Rattle.read_steps.proofs.Scans.{upto_none, upto_more}
use Rattle.walk_steps.proofs.blanks.Goals as goal

pub loop-i-init : goal.loop-i-init
loop-i-init c = upto_none is_blank c.args.s.now c.args.at

pub loop-i-preserved : goal.loop-i-preserved
loop-i-preserved c =
    upto_more is_blank c.args.s.now c.args.at c.loop-i.i c.loop-i.invariant (omega arith) (sym c.is_blank.ensures ∙ c.if-not-is_blank.false)

pub returns-then-not-is_blank : goal.returns-then-not-is_blank
returns-then-not-is_blank c =
    record { onward = c.loop-i.auto.i; each = c.loop-i.invariant; ends = λ h. sym c.is_blank.ensures ∙ c.if-not-is_blank.true }

pub returns : goal.returns
returns c =
    record {
      onward = omega (arith, c.max.ensures);
      each = λ k h j. c.loop-i.invariant k h (omega (arith, j, c.max.ensures, c.loop-i.auto.i));
      ends = λ h. absurd (omega (arith, c.max.ensures, h));
    }
