-- The place of a block: that of its last codon, or of its first.
use native.Mathlib.Omega.{arith}
use Rattle.protein_codons.proofs.Span.block_at.Goals as goal

pub returns-then-self : goal.returns-then-self
returns-then-self c = let place = rw c.if-self.true at c.place.ensures.0 in rw c.if-self.true (place, omega (arith, place))

pub returns : goal.returns
returns c = let place = rw c.if-self.false at c.place-2.ensures.0 in rw c.if-self.false (place, omega (arith, place))
