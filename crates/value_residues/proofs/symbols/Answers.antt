use Rattle.value_residues.proofs.Residues.{reach_join, first_foreign}
use Rattle.std.proofs.Common.{arith}
use Rattle.value_residues.proofs.symbols.Goals as goal

pub loop-i-init : goal.loop-i-init
loop-i-init c = c.sweep-i.ensures

pub returns-then-next-i : goal.returns-then-next-i
returns-then-next-i c =
    let args = c.args in
    first_foreign args.w.now args.class c.loop-i.invariant c.foreign.ensures

pub loop-i-smaller : goal.loop-i-smaller
loop-i-smaller c = let more = c.sweep-next.ensures in omega (arith, more.onward, more.inside, c.if-next-i.false)

pub loop-i-preserved : goal.loop-i-preserved
loop-i-preserved c =
    let args = c.args in
    reach_join args.w.now args.class c.loop-i.invariant c.sweep-next.ensures
