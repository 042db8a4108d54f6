-- `read_bytes::begins` meets its contract.
use native.Mathlib.Omega.{arith}
use mathlib.Core.Path.{subst}
use Rattle.read_bytes.proofs.Words.{Alike, alike_none, alike_next, alike_stands, stands_alike, is_there_lem, not_there}
use Rattle.read_bytes.proofs.begins.Goals as goal

pub returns-then-s-at : goal.returns-then-s-at
returns-then-s-at c = not_there (λ h. absurd (omega (arith, h.inside)))

pub loop-i-init : goal.loop-i-init
loop-i-init c = (omega arith, alike_none c.args.x.now c.args.s.now c.args.at)

pub returns-then-s-at-3 : goal.returns-then-s-at-3
returns-then-s-at-3 c = not_there (λ h. c.if-s-at-3.true (stands_alike h c.loop-i.i (omega arith)))

pub loop-i-preserved : goal.loop-i-preserved
loop-i-preserved c = (omega arith, alike_next c.args.x.now c.args.s.now c.args.at c.loop-i.invariant.1 c.if-s-at-3.false)

pub returns : goal.returns
returns c =
    let X = c.args.x.now in
    let S = c.args.s.now in
    is_there_lem (alike_stands X S c.args.at (omega arith) (subst (Alike X S c.args.at) (omega arith) c.loop-i.invariant.1))
