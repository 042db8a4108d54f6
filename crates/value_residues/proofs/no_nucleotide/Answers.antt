-- `value_residues::no_nucleotide` meets its contract: by a test of all bytes.
use Rattle.value_residues.proofs.Residues.{passes_symbols}
use lib.Bits.{bit_or}
use Rattle.std.proofs.Common.{refl, arith}
use Rattle.value_residues.proofs.no_nucleotide.Goals as goal

pub returns : goal.returns
returns c =
    let moved = c.wrapping_add_u8.ensures.value in
    passes_symbols 1 (omega arith)
    (λ x e.
    let efij = rw (moved, e) at c.equal-efij.ensures in
    let qu = rw e at c.equal-qu.ensures in
    let px = rw e at c.equal-px.ensures in
    let outside = rw e at c.outside.ensures in
    let l = rw e at c.equal.ensures in
    let o = rw e at c.equal-2.ensures in
    λ i. bit_or (bit_or (bit_or (bit_or (bit_or (outside i) (efij i)) (qu i)) (px i)) (l i)) (o i)) refl
