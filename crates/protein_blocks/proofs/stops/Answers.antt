use Prim.Native.Nat.{ℕ}
use native.Mathlib.Omega.{arith}
use mathlib.Core.Path.{◌≡◌, subst}
use Rattle.protein_code.specs.Tables.{code_of}
use Rattle.protein_blocks.specs.Blocks.{NoStop}
use Rattle.protein_blocks.proofs.Joined.{no_stop_start, no_stop_more}
use borrow.Author.Rules.{rules}
use Rattle.protein_blocks.proofs.stops.Goals as goal

pub loop-j-init : goal.loop-j-init
loop-j-init c = let a = c.args in λ h. no_stop_start (code_of a.code.now) a.r.now a.turned a.at

pub loop-j-preserved : goal.loop-j-preserved
loop-j-preserved c =
    let pre' = c.requires in
    let loop' = c.loop-j in
    let a = c.args in
    no_stop_more (code_of a.code.now) a.r.now a.turned a.at loop'.invariant pre'.marks (search rules) (search rules) c.may_stop.ensures

pub returns : goal.returns
returns c =
    let a = c.args in
    let e : c.loop-j.j ≡ 192 = omega arith in
    subst (λ (n : ℕ). c.loop-j.any ≡ 0 → NoStop (code_of a.code.now) a.r.now a.turned a.at n) e c.loop-j.invariant
