-- The marks are right, by a test of all 64.
use Prim.Native.Nat.{ℕ}
use mathlib.Core.Path.{refl}
use Rattle.paper.proofs.Tables.{each_same}
use Rattle.protein_blocks.proofs.mark_table.Goals as goal

pub returns : goal.returns
returns c = record { at = each_same _ (λ (i : ℕ). 255) 64 refl }
