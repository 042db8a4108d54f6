-- `value_residues::no_amino` meets its contract: by a test of all bytes.
use Rattle.value_residues.proofs.Residues.{passes_symbols}
use Rattle.std.proofs.Common.{refl, arith}
use Rattle.value_residues.proofs.no_amino.Goals as goal

pub returns : goal.returns
returns c = passes_symbols 2 (omega arith) (λ x e. rw e at c.outside.ensures) refl
