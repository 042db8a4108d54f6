use Rattle.value_residues.proofs.Residues.{between_more}
use Rattle.paper.proofs.Bits.{or_none}
use Rattle.value_residues.specs.Residues.{Between}
use Rattle.std.proofs.Common.{◌≡◌, ◌+◌, subst, arith}
use Rattle.value_residues.proofs.block.Goals as goal

pub loop-j-preserved : goal.loop-j-preserved
loop-j-preserved c =
    let l = c.loop-j in
    let a = c.args in
    let o = c.strange-bad in
    let q : a.at + l.j + 1 ≡ a.at + (l.j + 1) = omega arith in
    λ h. let b = or_none l.bad o.result h in subst (Between a.w.now a.class a.at) q
    (between_more a.w.now a.class a.at (a.at + l.j) (l.invariant b.0) (o.ensures.none b.1))
