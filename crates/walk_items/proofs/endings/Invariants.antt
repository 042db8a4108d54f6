-- `walk_items::endings` meets its contract. The loop's invariant: where the tests joined are 0 no end starts at a place passed.
use mathlib.Core.Path.{◌≡◌}
use Prim.Native.Nat.{◌+◌}
use Rattle.walk_items.specs.Items.{NoEnding}
use Rattle.walk_items.proofs.endings.Given as goal

abbrev pub invariant-loop-j : goal.invariant-loop-j
invariant-loop-j l = l.any ≡ 0 → NoEnding l.s l.at (l.at + l.j)
