-- The room that is left, 0 behind its end, holds so many bytes or it doesn't.
use native.Mathlib.Omega.{arith}
use Rattle.lent_room.specs.Room.{fits}
use Rattle.lent_room.specs.Room.InRoom.{short}
use Rattle.lent_room.proofs.fit.Goals as goal

pub returns-then-saturating_sub-size : goal.returns-then-saturating_sub-size
returns-then-saturating_sub-size c = short (omega (arith, c.if-saturating_sub-size.true, c.saturating_sub.ensures))

pub returns : goal.returns
returns c = fits (omega (arith, c.if-saturating_sub-size.false, c.saturating_sub.ensures))
