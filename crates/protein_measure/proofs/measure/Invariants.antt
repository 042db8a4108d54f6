-- Run by run. Invariant: the letters counted and those left are all, and none counted is a stop.
use lib.ListN.{length}
use Rattle.protein_code.specs.Tables.{code_of}
use Rattle.protein_codons.specs.Reading.{residues_left}
use Rattle.protein_measure.proofs.Measuring.{Measuring}
use Rattle.protein_measure.proofs.measure.Given as goal

abbrev pub invariant-loop-c : goal.invariant-loop-c
invariant-loop-c l = Measuring (code_of l.coding.code.now) l.coding.r.now l.coding.loc.now l.coding.top l.initial.x l.room l.x l.count

abbrev pub decreases-loop-c : goal.decreases-loop-c
decreases-loop-c l = residues_left (length l.coding.r.now) (length l.coding.loc.now) l.x
