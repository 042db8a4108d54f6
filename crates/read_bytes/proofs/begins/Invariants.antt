-- The loop's invariant: the text has the first `i` bytes of the word.
use Rattle.std.proofs.Common.{◌≤◌, length}
use Rattle.read_bytes.proofs.Words.{Alike}
use Rattle.read_bytes.proofs.begins.Given as goal

abbrev pub invariant-loop-i : goal.invariant-loop-i
invariant-loop-i l = (l.i ≤ length l.x) × Alike l.x l.s l.at l.i
