use native.Mathlib.Omega.{arith}
use Rattle.protein_codons.proofs.Stops.{none_more, clear_are}
use Rattle.protein_measure.proofs.clear_each.Goals as goal

pub loop-k-preserved : goal.loop-k-preserved
loop-k-preserved c =
    record { within = omega arith; clear = none_more c.loop-k.invariant.clear c.letter_at.ensures c.if-letter_at-eq42.false }

pub returns : goal.returns
returns c = clear_are c.loop-k.invariant (omega arith)
