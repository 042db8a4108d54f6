use native.Mathlib.Omega.{arith}
use mathlib.Core.Path.{◌≡◌, refl, sym, ◌∙◌}
use lib.ListN.{length}
use borrow.Author.Tests.{ltb-true}
use Rattle.std.proofs.lemmas.Grind.{get_or_default_zero}
use Rattle.location_judge.proofs.Digits.{counted_first, counted_next, counted_end, counted_byte}
use Rattle.location_judge.proofs.pieces.number.Goals as goal

pub loop-i-init : goal.loop-i-init
loop-i-init c =
    let a = c.args in
    let h = c.in_ok-b.ensures.lookup in
    let within = ltb-true a.at (length a.s.now) (sym h.0) in
    counted_first a.s.now a.at _ within (h.1 ∙ get_or_default_zero a.s.now a.at _ within) c.if-b-lt49.false c.if-b-gt57.false

pub returns-then-d-lt48 : goal.returns-then-d-lt48
returns-then-d-lt48 c =
    let a = c.args in
    let l = c.loop-i in
    counted_byte a.s.now a.at l.i l.value _ l.invariant (omega arith) refl (λ j k. omega (arith, c.then-d-lt48.either))

pub loop-i-preserved : goal.loop-i-preserved
loop-i-preserved c =
    let a = c.args in
    let l = c.loop-i in
    counted_next a.s.now a.at l.i l.value _ _ l.invariant (omega arith) refl c.if-d-lt48.false c.if-d-gt57.false c.min-value.ensures

pub returns : goal.returns
returns c =
    let a = c.args in
    let l = c.loop-i in
    let e : l.i ≡ length a.s.now = omega (arith, l.auto.i-end (omega arith)) in
    counted_end a.s.now a.at l.value (rw e at l.invariant)
