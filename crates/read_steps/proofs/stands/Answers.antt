-- `read_steps::stands` meets its contract: eight bytes more at each turn, and then the last eight.
use Rattle.read_bytes.proofs.Words.{Alike, alike_none, alike_stands}
use Rattle.read_steps.specs.Words.{Eight}
use Rattle.read_steps.proofs.Words.{eight_once, alike_more}
use borrow.Author.Tests.{eqb-true}
use mathlib.Core.Path.{subst}
use native.Mathlib.Omega.{arith}
use lib.ListN.{length}
use Prim.Native.Nat.{ℕ, ◌+◌, ◌≤◌}
use Rattle.read_steps.proofs.stands.Goals.{else-loop-i-test, then-loop-i-test+else-eight+else-i-end-i-gt8}
use Rattle.read_steps.proofs.stands.Goals as goal

pub loop-i-init : goal.loop-i-init
loop-i-init c = (omega arith, alike_none c.args.x.now c.args.s.now c.args.at)

pub loop-i-preserved : goal.loop-i-preserved
loop-i-preserved c =
    let l = c.loop-i in
    let a = c.args in
    let e = subst (Eight a.s.now (a.at + l.i)) c.if-eight.false c.eight.ensures in
    (omega arith, alike_more a.x.now a.s.now a.at l.invariant.1 (eight_once e c.eight-in-loop-i.ensures) (omega arith))

pub returns : goal.returns
returns c =
    λ e.
    let a = c.args in
    let l = c.loop-i in
    let p : (k : ℕ) × (length a.x.now ≤ k + 8) × Alike a.x.now a.s.now a.at k =
    elim c.loop-i-test.branch [
      | else-loop-i-test w ↦ (l.i, omega (arith, w.loop-i-test.false), l.invariant.1)
      | then-loop-i-test+else-eight+else-i-end-i-gt8 w ↦ (
        l.i + 8,
        omega arith,
        alike_more a.x.now a.s.now a.at l.invariant.1
            (eight_once (subst (Eight a.s.now (a.at + l.i)) w.if-eight.false w.eight.ensures) w.eight-in-loop-i.ensures) (omega arith),
      )
    ] in
    let h = subst (Eight a.s.now _) (eqb-true _ _ e) c.eight-2.ensures in
    let z = alike_more a.x.now a.s.now a.at p.2 (eight_once h c.eight-3.ensures) (omega (arith, p.1)) in
    alike_stands a.x.now a.s.now a.at (omega arith) (subst (Alike a.x.now a.s.now a.at) (omega arith) z)
