-- The loop's invariant: where the tests joined are 0 each byte passed stands for itself.
use mathlib.Core.Path.{◌≡◌}
use mathlib.Core.Bool.{false}
use Rattle.read_steps.specs.Texts.{is_plain, Upto}
use Rattle.read_steps.proofs.block.Given as goal

abbrev pub invariant-loop-b : goal.invariant-loop-b
invariant-loop-b l = l.bad ≡ 0 → Upto (is_plain false) l.x 0 l.b-index
