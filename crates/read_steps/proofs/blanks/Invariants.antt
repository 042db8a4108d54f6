-- The loop's invariant: the bytes from `next` to `at` are blanks.
use Prim.Native.Nat.{ℕ, ◌+◌, ◌≤◌}
use mathlib.Core.Path.{◌≡◌}
use lib.ListN.{length, take, drop}
use Rattle.paper.specs.Bytes.{all, is_blank}
use Rattle.read_steps.proofs.blanks.Given as goal

abbrev pub invariant-loop-at : goal.invariant-loop-at
invariant-loop-at l = (n : ℕ) × (l.at ≡ l.next + n) × (n ≤ length (drop l.next l.s)) × all is_blank (take n (drop l.next l.s))
