-- `read_steps::block` meets its contract.
use native.Mathlib.Omega.{arith}
use mathlib.Core.Path.{subst}
use mathlib.Core.Bool.{false}
use Rattle.paper.proofs.Bits.{or_none}
use Rattle.read_steps.specs.Texts.{is_plain, Upto}
use Rattle.read_steps.proofs.Scans.{upto_none, upto_more}
use Rattle.read_steps.proofs.block.Goals as goal

pub loop-b-init : goal.loop-b-init
loop-b-init c = λ h. upto_none (is_plain false) c.args.x.now 0

pub loop-b-preserved : goal.loop-b-preserved
loop-b-preserved c =
    λ h.
    let l = c.loop-b in
    let b = or_none l.bad c.odd-bad.result h in
    upto_more (is_plain false) c.args.x.now 0 l.b-index (l.invariant b.0) (omega arith) (c.odd-bad.ensures.none b.1)

pub returns : goal.returns
returns c = record { none = λ h. subst (Upto (is_plain false) c.args.x.now 0) (omega arith) (c.loop-b.invariant h) }
