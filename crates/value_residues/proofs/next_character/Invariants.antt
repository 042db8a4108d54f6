-- `value_residues::next_character` meets its contract. The loop's invariant: the entity goes on at `i`.
use Rattle.value_residues.proofs.Counting.{InEntity}
use Rattle.value_residues.proofs.next_character.Given as goal

abbrev pub invariant-loop-i : goal.invariant-loop-i
invariant-loop-i l = InEntity l.w l.at l.i
