-- Number by number. Invariant: those passed are laid.
use Rattle.std.specs.Prelude.{Ok}
use lib.ListN.{take}
use Rattle.paper.specs.Index.{in_bytes}
use Rattle.lent_room.specs.Room.{Lays}
use Rattle.lent_room.proofs.lay_numbers.Given as goal

abbrev pub invariant-loop-n : goal.invariant-loop-n
invariant-loop-n l = Lays l.given l.at (in_bytes (take l.n-index l.numbers)) l.initial.room l.pass (Ok l.end) l.room
