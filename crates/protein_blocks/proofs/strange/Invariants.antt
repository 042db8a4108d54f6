-- Residue by residue. Invariant: where the tests joined are 0 those passed are plain.
use mathlib.Core.Path.{◌≡◌}
use Rattle.protein_blocks.specs.Blocks.{AllPlain}
use Rattle.protein_blocks.proofs.strange.Given as goal

abbrev pub invariant-loop-j : goal.invariant-loop-j
invariant-loop-j l = l.any ≡ 0 → AllPlain l.r l.at l.j
