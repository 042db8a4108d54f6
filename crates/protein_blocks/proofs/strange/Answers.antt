use Prim.Native.Nat.{ℕ}
use native.Mathlib.Omega.{arith}
use mathlib.Core.Path.{◌≡◌, subst}
use Rattle.protein_blocks.specs.Blocks.{AllPlain}
use Rattle.protein_blocks.proofs.Joined.{plain_start, plain_more}
use Rattle.protein_blocks.proofs.strange.Goals as goal

pub loop-j-init : goal.loop-j-init
loop-j-init c = λ h. plain_start c.args.r.now c.args.at

pub loop-j-preserved : goal.loop-j-preserved
loop-j-preserved c =
    let a = c.args in
    plain_more a.r.now a.at c.loop-j.invariant c.no_plain-any.ensures

pub returns : goal.returns
returns c =
    let a = c.args in
    let e : c.loop-j.j ≡ 192 = omega arith in
    subst (λ (n : ℕ). c.loop-j.any ≡ 0 → AllPlain a.r.now a.at n) e c.loop-j.invariant
