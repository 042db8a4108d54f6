-- Character by character. Invariant: those passed are laid.
use Prim.Native.Nat.{◌-◌}
use lib.ListN.{length}
use Rattle.lent_room.proofs.Characters.{Reading}
use Rattle.lent_room.proofs.lay_read.Given as goal

abbrev pub invariant-loop-i : goal.invariant-loop-i
invariant-loop-i l = Reading l.given l.at l.text l.initial.room l.pass l.i l.end l.room

abbrev pub decreases-loop-i : goal.decreases-loop-i
decreases-loop-i l = length l.text - l.i
