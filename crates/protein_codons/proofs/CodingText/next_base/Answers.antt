-- The next residue: of the current span, once it has one.
use native.Mathlib.Omega.{arith}
use Rattle.protein_codons.proofs.Readings.{base_is, pass_ahead, pass_behind}
use Rattle.protein_codons.proofs.CodingText.next_base.Goals as goal

pub returns-then-low-high : goal.returns-then-low-high
returns-then-low-high c = record { says = c.fill-y.ensures.ends c.if-low-high.true }

pub returns-then-y : goal.returns-then-y
returns-then-y c =
    let f = c.fill-y.ensures in
    let y = c.fill-y.result in
    let t = c.set_of.ensures in
    record { says = base_is f (pass_behind c.args.self.now.of.r.now y f.ready.inside c.if-y.true (omega (arith, f.ready.order))) t.small t.bases }

pub returns : goal.returns
returns c =
    let f = c.fill-y.ensures in
    let y = c.fill-y.result in
    let t = c.set_of-2.ensures in
    record { says = base_is f (pass_ahead c.args.self.now.of.r.now y f.ready.inside c.if-y.false (omega (arith, f.ready.order))) t.small t.bases }
