-- Byte by byte. Invariant: those passed are alike.
use Prim.Native.Nat.{◌+◌}
use mathlib.Core.Path.{◌≡◌}
use lib.ListN.{take, drop}
use Rattle.paper.specs.Index.{agree}
use Rattle.lent_room.proofs.compare.Given as goal

abbrev pub invariant-loop-b : goal.invariant-loop-b
invariant-loop-b l = (l.k ≡ l.at + l.b-index) × (agree (take l.b-index l.text) (drop l.at l.given) ≡ l.b-index)
