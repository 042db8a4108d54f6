-- `read_steps::scan` meets its contract.
use native.Mathlib.Omega.{arith}
use mathlib.Core.Path.{sym, ◌∙◌}
use Rattle.read_steps.specs.Texts.{is_plain}
use Rattle.read_steps.proofs.Scans.{upto_none, upto_more}
use Rattle.read_steps.proofs.scan.Goals as goal

pub loop-at-init : goal.loop-at-init
loop-at-init c = upto_none (is_plain c.args.high) c.args.s.now c.args.start

pub loop-at-preserved : goal.loop-at-preserved
loop-at-preserved c =
    upto_more (is_plain c.args.high) c.args.s.now c.args.start c.loop-at.at c.loop-at.invariant (omega arith)
    (sym c.plain_by.ensures ∙ c.if-not-plain_by.false)

pub returns-then-not-plain_by : goal.returns-then-not-plain_by
returns-then-not-plain_by c =
    record { onward = omega arith; each = c.loop-at.invariant; ends = λ h. sym c.plain_by.ensures ∙ c.if-not-plain_by.true }
