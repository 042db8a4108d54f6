-- `read_steps::lit` meets its contract: the text goes on with the word, or differs from it, or ends.
use Prim.Native.Nat.{◌+◌}
use native.Mathlib.Numerals.{add-one}
use native.Mathlib.Omega.{arith}
use mathlib.Core.Path.{◌≡◌, refl, sym, ◌∙◌}
use lib.ListN.{length, drop, length-drop}
use Rattle.read_steps.proofs.Leaves.{same_more, these_took, these_differ, these_end, at_drop}
use Rattle.read_steps.proofs.Steps.{found, lacks}
use Rattle.read_steps.proofs.lit.Goals.{then-at-s-via-then-at-s, then-at-s-via-else-at-s+then-s-at}
use Rattle.read_steps.proofs.lit.Goals as goal

pub returns-then-at-s : goal.returns-then-at-s
returns-then-at-s c =
    let l = c.loop-i in
    let x = c.args.x.now in
    let s = c.args.s.now in
    let p = c.in_ok-next.field-0.next in
    lacks c.in_ok-next.was c.max.ensures
    (elim c.then-at-s.branch [
      | then-at-s-via-then-at-s w ↦ these_end x (drop p s) p l.i (omega arith) l.invariant.1 (omega (arith, w.if-at-s.true, length-drop p s))
      | then-at-s-via-else-at-s+then-s-at w ↦
          these_differ x (drop p s) p l.i (omega arith) l.invariant.1 (λ e. w.if-s-at.true (sym (at_drop s p (p + l.i) l.i refl) ∙ e))
    ])

pub loop-i-preserved : goal.loop-i-preserved
loop-i-preserved c =
    let l = c.loop-i in
    let s = c.args.s.now in
    let p = c.in_ok-next.field-0.next in (
      omega arith,
      rw add-one
          (same_more (drop p s) c.args.x.now l.i (omega arith) (omega (arith, length-drop p s)) l.invariant.1
          (at_drop s p (p + l.i) l.i refl ∙ c.if-s-at.false)),
    )

pub returns : goal.returns
returns c =
    let s = c.args.s.now in
    let p = c.in_ok-next.field-0.next in
    let e : length c.args.x.now ≡ c.loop-i.i = omega arith in
    found c.in_ok-next.was refl c.max-2.ensures (these_took c.args.x.now (drop p s) p (rw e c.loop-i.invariant.1))
