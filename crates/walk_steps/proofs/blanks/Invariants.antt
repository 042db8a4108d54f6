-- `walk_steps::blanks` meets its contract. The loop's invariant: the bytes so far are blanks.
use Rattle.paper.specs.Bytes.{is_blank}
use Rattle.read_steps.specs.Texts.{Upto}
use Rattle.walk_steps.proofs.blanks.Given as goal

abbrev pub invariant-loop-i : goal.invariant-loop-i
invariant-loop-i l = Upto is_blank l.s l.at l.i
