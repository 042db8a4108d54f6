use Rattle.walk_items.proofs.Quiet.{ending_none, ending_join, ending_later, first_ending}
use native.Mathlib.Omega.{arith}
use Prim.Native.Nat.{◌+◌}
use Rattle.walk_items.proofs.table_end.Goals as goal

pub returns-then-s-first : goal.returns-then-s-first
returns-then-s-first c =
    first_ending (record { onward = omega arith; each = ending_none c.args.s.now c.args.first; there = λ h. absurd (omega arith) })

pub loop-at-init : goal.loop-at-init
loop-at-init c = (omega arith, omega arith, ending_none c.args.s.now c.args.first)

pub returns-then-endings-ne0 : goal.returns-then-endings-ne0
returns-then-endings-ne0 c =
    let l = c.loop-at in
    first_ending (ending_later l.invariant.0 l.invariant.2 c.ending_from.ensures)

pub loop-at-smaller : goal.loop-at-smaller
loop-at-smaller c = omega arith

pub loop-at-preserved : goal.loop-at-preserved
loop-at-preserved c =
    let l = c.loop-at in
    let a = c.args in
    (omega (arith, l.invariant.0), omega arith, ending_join a.s.now a.first l.at (l.at + 64) l.invariant.2 (c.endings.ensures.none c.if-endings-ne0.false))

pub returns : goal.returns
returns c =
    let l = c.loop-at in
    first_ending (ending_later l.invariant.0 l.invariant.2 c.ending_from-2.ensures)
