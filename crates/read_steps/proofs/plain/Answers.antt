-- `read_steps::plain` meets its contract: the byte at the place stands for itself, or does not, or the text ends there.
use native.Mathlib.Omega.{arith}
use mathlib.Core.Path.{refl, sym, ap, ◌∙◌}
use lib.ListN.{drop, length-drop}
use Rattle.read_steps.specs.Texts.{is_plain}
use Rattle.read_steps.proofs.Leaves.{byte_took, byte_lost, byte_end, at_drop}
use Rattle.read_steps.proofs.Scans.{plain_any}
use Rattle.read_steps.proofs.Steps.{found, lacks}
use Rattle.read_steps.proofs.plain.Goals.{else-next-s-via-then-next-s+else-plain_by, else-next-s-via-else-next-s}
use Rattle.read_steps.proofs.plain.Goals as goal

pub returns-then-plain_by : goal.returns-then-plain_by
returns-then-plain_by c =
    let f = is_plain c.args.high in
    let p = c.in_ok-next.field-0.next in
    let s = c.args.s.now in
    found c.in_ok-next.was refl c.max.ensures
    (byte_took f (drop p s) p (omega (arith, length-drop p s))
    (ap f (at_drop s p p 0 (omega arith)) ∙ sym c.plain_by.ensures ∙ c.if-plain_by.true))

pub returns : goal.returns
returns c =
    let f = is_plain c.args.high in
    let p = c.in_ok-next.field-0.next in
    let s = c.args.s.now in
    let b = plain_any c.args.high 32 refl in
    lacks c.in_ok-next.was (omega (arith, c.max-2.ensures))
    (elim c.else-next-s.branch [
      | else-next-s-via-then-next-s+else-plain_by w ↦
          byte_lost f (drop p s) p 32 b (ap f (at_drop s p p 0 (omega arith)) ∙ sym w.plain_by.ensures ∙ w.if-plain_by.false)
      | else-next-s-via-else-next-s w ↦ byte_end f (drop p s) p 32 b (omega (arith, w.if-next-s.false, length-drop p s))
    ])
