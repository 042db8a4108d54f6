-- `read_steps::stands_short` meets its contract: the first four bytes are alike, and then the last four.
use Rattle.read_bytes.proofs.Words.{Alike, alike_stands}
use Rattle.read_steps.specs.Words.{Four}
use Rattle.read_steps.proofs.Words.{four_once, first_four, alike_more}
use borrow.Author.Tests.{eqb-true}
use mathlib.Core.Path.{subst}
use native.Mathlib.Omega.{arith}
use Rattle.read_steps.proofs.stands_short.Goals as goal

pub returns-then-four : goal.returns-then-four
returns-then-four c =
    λ e.
    let a = c.args in
    let f = subst (Four a.s.now _) c.if-four.true c.four.ensures in
    let g = subst (Four a.s.now _) (eqb-true _ _ e) c.four-then-four.ensures in
    let y = first_four a.x.now a.s.now a.at f c.four-2.ensures in
    let z = alike_more a.x.now a.s.now a.at y (four_once g c.four-then-four-2.ensures) (omega arith) in
    alike_stands a.x.now a.s.now a.at (omega arith) (subst (Alike a.x.now a.s.now a.at) (omega arith) z)
