-- The loop's invariant: the text from `next` on starts with the bytes passed of the word.
use Prim.Native.Nat.{◌+◌, ◌≤◌, max}
use lib.ListN.{length, drop}
use Rattle.read_steps.proofs.Leaves.{Same}
use Rattle.read_steps.proofs.lit.Given as goal

abbrev pub invariant-loop-i : goal.invariant-loop-i
invariant-loop-i l = (l.next + l.i ≤ max l.next (length l.s)) × Same (drop l.next l.s) l.x l.i
