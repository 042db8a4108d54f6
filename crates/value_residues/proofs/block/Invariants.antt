-- `value_residues::block` meets its contract. The loop's invariant: where the tests joined are 0 each byte passed is a symbol.
use Rattle.value_residues.specs.Residues.{Between}
use Rattle.std.proofs.Common.{◌≡◌, ◌+◌}
use Rattle.value_residues.proofs.block.Given as goal

abbrev pub invariant-loop-j : goal.invariant-loop-j
invariant-loop-j l = (l.bad ≡ 0 → Between l.w l.class l.at (l.at + l.j))
