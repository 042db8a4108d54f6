-- `read_steps::blanks` meets its contract: blanks, up to a byte that is none, or to the end.
use Prim.Native.Nat.{suc, ◌<◌}
use native.Mathlib.Omega.{arith}
use mathlib.Core.Path.{sym, ap, ◌∙◌}
use lib.ListN.{length, drop, length-drop}
use Rattle.paper.specs.Bytes.{is_blank}
use Rattle.read_steps.proofs.Leaves.{run_more, run_stops, run_ends, at_drop}
use Rattle.read_steps.proofs.Steps.{found}
use Rattle.read_steps.proofs.blanks.Goals as goal

pub returns-then-not-is_blank : goal.returns-then-not-is_blank
returns-then-not-is_blank c =
    let i = c.loop-at.invariant in
    let s = c.args.s.now in
    let p = c.in_ok-next.field-0.next in
    found c.in_ok-next.was i.1 c.max.ensures
    (run_stops is_blank (drop p s) p i.0 i.2 i.3
    (ap is_blank (at_drop s p c.loop-at.at i.0 i.1) ∙ sym c.is_blank.ensures ∙ c.if-not-is_blank.true))

pub loop-at-preserved : goal.loop-at-preserved
loop-at-preserved c =
    let i = c.loop-at.invariant in
    let s = c.args.s.now in
    let p = c.in_ok-next.field-0.next in
    let h : i.0 < length (drop p s) = omega (arith, i.1, length-drop p s) in (
      suc i.0,
      omega (arith, i.1),
      h,
      run_more is_blank (drop p s) i.0 h i.3
          (ap is_blank (at_drop s p c.loop-at.at i.0 i.1) ∙ sym c.is_blank.ensures ∙ c.if-not-is_blank.false),
    )

pub returns : goal.returns
returns c =
    let i = c.loop-at.invariant in
    let s = c.args.s.now in
    let p = c.in_ok-next.field-0.next in
    found c.in_ok-next.was (omega (arith, i.1, i.2, length-drop p s, c.max-end.ensures)) c.max-2.ensures
    (run_ends is_blank (drop p s) p i.0 i.2 i.3 (omega (arith, i.1, length-drop p s)))
