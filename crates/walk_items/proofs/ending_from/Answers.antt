use Rattle.walk_items.proofs.Quiet.{ending_none, ending_more, ending_join, none_behind}
use native.Mathlib.Omega.{arith}
use lib.ListN.{length}
use Rattle.walk_items.proofs.ending_from.Goals as goal

pub loop-i-init : goal.loop-i-init
loop-i-init c = ending_none c.args.s.now c.args.at

pub returns-then-ending-ne0 : goal.returns-then-ending-ne0
returns-then-ending-ne0 c =
    let l = c.loop-i in
    record { onward = l.auto.i; each = l.invariant; there = λ h. c.ending.ensures.some c.if-ending-ne0.true }

pub loop-i-preserved : goal.loop-i-preserved
loop-i-preserved c =
    let l = c.loop-i in
    let a = c.args in
    ending_more a.s.now a.at l.i l.invariant (λ x. c.ending.ensures.none c.if-ending-ne0.false x.0 x.1)

pub returns : goal.returns
returns c =
    let l = c.loop-i in
    let s = c.args.s.now in
    record {
      onward = omega arith;
      each = ending_join s c.args.at l.i (length s) l.invariant (none_behind s l.i (omega (arith, c.saturating_sub-i-end.ensures)) (length s));
      there = λ h. absurd (omega (arith, h));
    }
