-- Run by run. Invariant: the letters done stand at the front, and the others are left.
use Prim.Native.Nat.{◌-◌}
use Rattle.protein_code.specs.Tables.{code_of}
use Rattle.protein_write.proofs.Putting.{Putting}
use Rattle.protein_write.proofs.put.Given as goal

abbrev pub invariant-loop-passed : goal.invariant-loop-passed
invariant-loop-passed l = Putting (code_of l.text.of.code.now) l.text.of.r.now l.text.of.loc.now l.text.of.top l.initial.x l.count l.initial.out l.out l.x l.k

abbrev pub decreases-loop-passed : goal.decreases-loop-passed
decreases-loop-passed l = l.count - l.k
