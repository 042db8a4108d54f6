-- `read_steps::blank` meets its contract: the byte at the place is a blank, or is none, or the text ends there.
use native.Mathlib.Omega.{arith}
use mathlib.Core.Path.{refl, sym, ap, ◌∙◌}
use lib.ListN.{drop, length-drop}
use Rattle.paper.specs.Bytes.{is_blank}
use Rattle.read_steps.proofs.Leaves.{byte_took, byte_lost, byte_end, at_drop}
use Rattle.read_steps.proofs.Steps.{one_took, one_lost, found, lacks}
use Rattle.read_steps.proofs.blank.Goals.{else-next-s-via-then-next-s+else-is_blank, else-next-s-via-else-next-s}
use Rattle.read_steps.proofs.blank.Goals as goal

pub returns-then-is_blank : goal.returns-then-is_blank
returns-then-is_blank c =
    let p = c.in_ok-next.field-0.next in
    let s = c.args.s.now in
    found c.in_ok-next.was refl c.max.ensures
    (one_took is_blank (byte_took is_blank (drop p s) p (omega (arith, length-drop p s))
    (ap is_blank (at_drop s p p 0 (omega arith)) ∙ sym c.is_blank.ensures ∙ c.if-is_blank.true)))

pub returns : goal.returns
returns c =
    let p = c.in_ok-next.field-0.next in
    let s = c.args.s.now in
    lacks c.in_ok-next.was (omega (arith, c.max-2.ensures))
    (one_lost is_blank
    (elim c.else-next-s.branch [
      | else-next-s-via-then-next-s+else-is_blank w ↦
          byte_lost is_blank (drop p s) p 32 refl
          (ap is_blank (at_drop s p p 0 (omega arith)) ∙ sym w.is_blank.ensures ∙ w.if-is_blank.false)
      | else-next-s-via-else-next-s w ↦ byte_end is_blank (drop p s) p 32 refl (omega (arith, w.if-next-s.false, length-drop p s))
    ]))
