use native.Mathlib.Omega.{arith}
use Rattle.paper.specs.Bytes.{bytes}
use Rattle.paper.specs.Layout.{child, qualifier}
use mathlib.Core.Path.{refl}
use Rattle.read_steps.specs.Follow.{closing}
use Rattle.walk_items.proofs.Features.{qualifier_leads}
use Rattle.walk_items.proofs.Sequences.{qualifier_over}
use Rattle.walk_steps.proofs.Loops.{over_next, over_stuck, over_done}
use Rattle.walk_items.proofs.qualifiers_over.Goals as goal

pub loop-next-init : goal.loop-next-init
loop-next-init c = record { is = λ l e d fol. (l, d) }

pub returns-then-next-at : goal.returns-then-next-at
returns-then-next-at c =
    over_stuck (bytes "INSDQualifier") (child qualifier) qualifier_leads closing (record { clash = refl; sharps = refl }) c.loop-next-test.true (c.child_here.ensures.tells (bytes "INSDQualifier") refl) c.loop-next.invariant (qualifier_over c.qualifier-next.ensures) c.if-next-at.true

pub loop-next-smaller : goal.loop-next-smaller
loop-next-smaller c = omega (arith, c.child_here.ensures.inside c.loop-next-test.true)

pub loop-next-preserved : goal.loop-next-preserved
loop-next-preserved c =
    over_next (bytes "INSDQualifier") (child qualifier) qualifier_leads closing (record { clash = refl; sharps = refl }) c.loop-next-test.true (c.child_here.ensures.tells (bytes "INSDQualifier") refl) c.loop-next.invariant (qualifier_over c.qualifier-next.ensures)

pub returns : goal.returns
returns c =
    over_done (bytes "INSDQualifier") (child qualifier) qualifier_leads closing (record { clash = refl; sharps = refl }) c.loop-next-test.false (c.child_here.ensures.tells (bytes "INSDQualifier") refl) c.loop-next.invariant
