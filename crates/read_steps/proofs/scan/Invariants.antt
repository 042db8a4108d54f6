-- The loop's invariant: the bytes from `start` to `at` stand for themselves.
use Rattle.read_steps.specs.Texts.{is_plain, Upto}
use Rattle.read_steps.proofs.scan.Given as goal

abbrev pub invariant-loop-at : goal.invariant-loop-at
invariant-loop-at l = Upto (is_plain l.high) l.s l.start l.at
