use Rattle.walk_items.proofs.Quiet.{ending_more}
use Rattle.walk_items.specs.Items.{NoEnding}
use Rattle.paper.proofs.Bits.{or_none}
use mathlib.Core.Path.{◌≡◌, subst}
use native.Mathlib.Omega.{arith}
use Prim.Native.Nat.{ℕ, ◌+◌}
use Rattle.walk_items.proofs.endings.Goals as goal

pub loop-j-init : goal.loop-j-init
loop-j-init c = λ h k i j. absurd (omega arith)

pub loop-j-preserved : goal.loop-j-preserved
loop-j-preserved c =
    let l = c.loop-j in
    let a = c.args in
    let o = c.ending-any in
    let q : a.at + l.j + 1 ≡ a.at + (l.j + 1) = omega arith in
    λ h.
    let b = or_none l.any o.result h in
    subst (NoEnding a.s.now a.at) q (ending_more a.s.now a.at (a.at + l.j) (l.invariant b.0) (λ x. o.ensures.none b.1 x.0 x.1))

pub returns : goal.returns
returns c =
    let l = c.loop-j in
    let a = c.args in
    let q : l.j ≡ 64 = omega arith in
    record { none = λ h. subst (λ (k : ℕ). NoEnding a.s.now a.at (a.at + k)) q (l.invariant h) }
