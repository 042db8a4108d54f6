-- `read_steps::blocks` meets its contract. The loop's invariant: the bytes from `start` to `at` stand for themselves. The measure is what
-- is left of the text.
use Prim.Native.Nat.{◌-◌, ◌≤◌}
use mathlib.Core.Bool.{false}
use lib.ListN.{length}
use Rattle.read_steps.specs.Texts.{is_plain, Upto}
use Rattle.read_steps.proofs.blocks.Given as goal

abbrev pub invariant-loop-at : goal.invariant-loop-at
invariant-loop-at l = (l.start ≤ l.at) × Upto (is_plain false) l.s l.start l.at

abbrev pub decreases-loop-at : goal.decreases-loop-at
decreases-loop-at l = length l.s - l.at
