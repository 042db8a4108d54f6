-- They are in the room, or too many.
use mathlib.Core.Path.{sym, subst}
use Prim.Native.Nat.{ℕ, ◌+◌}
use Rattle.std.specs.Prelude.{Option, Some}
use Rattle.protein_measure.specs.Measuring.{InRoom, Counted}
use Rattle.protein_measure.proofs.Measuring.{counted_in}
use Rattle.protein_measure.proofs.counted.Goals as goal

pub returns : goal.returns
returns c =
    let a = c.args in
    let is = c.in_ok-n.was in
    let within = subst (InRoom a.room) is c.requires in
    subst (λ (o : Option ℕ). Counted a.room o a.k (Some (c.in_ok-n.n + a.k))) (sym is) (counted_in within c.if-room-n.false)
