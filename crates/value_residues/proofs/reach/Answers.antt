use Rattle.value_residues.proofs.Residues.{reach_none, reach_on}
use Rattle.std.proofs.Common.{arith}
use Rattle.value_residues.proofs.reach.Goals as goal

pub loop-i-init : goal.loop-i-init
loop-i-init c = (omega arith, reach_none c.args.w.now c.args.class c.args.from (omega arith))

pub returns-then-block-ne0 : goal.returns-then-block-ne0
returns-then-block-ne0 c = c.loop-i.invariant.1

pub loop-i-smaller : goal.loop-i-smaller
loop-i-smaller c = omega arith

pub loop-i-preserved : goal.loop-i-preserved
loop-i-preserved c =
    let a = c.args in
    let l = c.loop-i in
    (omega arith, reach_on a.w.now a.class l.invariant.1 (omega arith) (omega arith) (c.block.ensures.none (omega arith)))

pub returns : goal.returns
returns c = c.loop-i.invariant.1
