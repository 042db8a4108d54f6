use Prim.Native.Nat.{◌+◌}
use native.Mathlib.Omega.{arith}
use mathlib.Core.Bool.{false}
use Rattle.read_steps.specs.Texts.{is_plain}
use Rattle.read_steps.proofs.Scans.{upto_none, upto_join, upto_part}
use Rattle.read_steps.proofs.blocks.Goals as goal

pub loop-at-init : goal.loop-at-init
loop-at-init c = (omega arith, upto_none (is_plain false) c.args.s.now c.args.start)

pub returns-then-s-at-lt64 : goal.returns-then-s-at-lt64
returns-then-s-at-lt64 c = let l = c.loop-at in record { onward = l.invariant.0; each = l.invariant.1 }

pub loop-at-preserved-then-block-eq0 : goal.loop-at-preserved-then-block-eq0
loop-at-preserved-then-block-eq0 c =
    let l = c.loop-at in
    let a = c.args in
    (omega arith, upto_join (is_plain false) a.s.now a.start l.at (l.at + 64) l.invariant.1 (upto_part (is_plain false) a.s.now l.at (l.at + 64) (omega arith) (omega arith) (c.block.ensures.none c.if-block-eq0.true)))

pub returns-then-block-ne0 : goal.returns-then-block-ne0
returns-then-block-ne0 c = let l = c.loop-at in record { onward = l.invariant.0; each = l.invariant.1 }

pub loop-at-preserved : goal.loop-at-preserved
loop-at-preserved c =
    let l = c.loop-at in
    let a = c.args in
    (omega arith, upto_join (is_plain false) a.s.now a.start l.at (l.at + 32) l.invariant.1 (upto_part (is_plain false) a.s.now l.at (l.at + 32) (omega arith) (omega arith) (c.block-else-block-eq0.ensures.none c.if-block-ne0.false)))

pub returns : goal.returns
returns c = let l = c.loop-at in record { onward = l.invariant.0; each = l.invariant.1 }
