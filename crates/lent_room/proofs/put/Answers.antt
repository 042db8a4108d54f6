use Prim.Native.Nat.{ℕ, ◌+◌}
use native.Mathlib.Omega.{arith}
use mathlib.Core.Path.{refl, ap, ◌∙◌}
use mathlib.Core.List.{List}
use lib.ListN.{length, take, set, get_or}
use lib.Seq.{sets, length-sets, take_all}
use Rattle.lent_room.proofs.Leaves.{sets_more}
use Rattle.lent_room.proofs.put.Goals as goal

pub loop-i-init : goal.loop-i-init
loop-i-init c = (omega arith, refl)

pub overflow_add-room : goal.overflow_add-room
overflow_add-room c = omega (arith, c.requires)

pub bounds-room-at : goal.bounds-room-at
bounds-room-at c =
    omega
    (arith, ap length c.loop-i.invariant.1, length-sets c.args.room.now c.args.at (take c.loop-i.i c.args.text.now), c.requires)

pub loop-i-preserved : goal.loop-i-preserved
loop-i-preserved c =
    let text = c.args.text.now in
    (omega arith, ap (λ (z : List ℕ). set z (c.args.at + c.loop-i.i) (get_or text c.loop-i.i 0)) c.loop-i.invariant.1 ∙ sets_more text c.args.room.now c.args.at c.loop-i.i c.loop-i-test.true)

pub shape_of-room : goal.shape_of-room
shape_of-room c =
    ap length c.loop-i.invariant.1 ∙ length-sets c.args.room.now c.args.at (take c.loop-i.i c.args.text.now)

pub returns : goal.returns
returns c =
    c.loop-i.invariant.1 ∙ ap (sets c.args.room.now c.args.at) (take_all c.loop-i.i c.args.text.now c.loop-i-test.false)
