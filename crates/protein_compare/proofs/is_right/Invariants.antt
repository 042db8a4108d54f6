-- A value compared run by run. Invariant: it is right exactly if the rest of it is right for the letters that are left.
use lib.ListN.{length}
use Rattle.protein_code.specs.Tables.{code_of}
use Rattle.protein_codons.specs.Reading.{residues_left}
use Rattle.protein_compare.proofs.Values.{Comparing}
use Rattle.protein_compare.proofs.is_right.Given as goal

abbrev pub invariant-loop-c : goal.invariant-loop-c
invariant-loop-c l = Comparing (code_of l.coding.code.now) l.coding.r.now l.coding.loc.now l.coding.top l.initial.x l.value l.x l.i

abbrev pub decreases-loop-c : goal.decreases-loop-c
decreases-loop-c l = residues_left (length l.coding.r.now) (length l.coding.loc.now) l.x
