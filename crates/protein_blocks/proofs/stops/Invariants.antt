-- Residue by residue. Invariant: where the tests joined are 0 no codon that starts in those passed is a stop.
use mathlib.Core.Path.{◌≡◌}
use Rattle.protein_code.specs.Tables.{code_of}
use Rattle.protein_blocks.specs.Blocks.{NoStop}
use Rattle.protein_blocks.proofs.stops.Given as goal

abbrev pub invariant-loop-j : goal.invariant-loop-j
invariant-loop-j l = l.any ≡ 0 → NoStop (code_of l.code) l.r l.turned l.at l.j
