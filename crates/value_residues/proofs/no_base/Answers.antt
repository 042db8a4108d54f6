-- `value_residues::no_base` meets its contract: by a test of all bytes.
use Rattle.value_residues.proofs.Residues.{passes_symbols}
use Rattle.std.proofs.Common.{refl, arith}
use Rattle.value_residues.proofs.no_base.Goals as goal

pub returns : goal.returns
returns c =
    let a = c.equal.ensures in
    let c' = c.equal-2.ensures in
    let g = c.equal-3.ensures in
    let t = c.equal-4.ensures in
    let n = c.equal-5.ensures in
    passes_symbols 1 (omega arith) (λ x e. rw (a, c', g, t, n, e) at c.equal-6.ensures) refl
