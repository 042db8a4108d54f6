use native.Mathlib.Omega.{arith}
use mathlib.Core.Path.{◌≡◌}
use lib.ListN.{length}
use Rattle.lent_room.proofs.Leaves.{agrees_end, agrees_other, agrees_more, agrees_all}
use Rattle.lent_room.proofs.compare.Goals as goal
use Rattle.lent_room.proofs.compare.Goals.{then-given-k-via-then-given-k, then-given-k-via-else-given-k+then-given-k-2}

pub returns-then-given-k : goal.returns-then-given-k
returns-then-given-k c =
    let text = c.args.text.now in
    let given = c.args.given.now in
    let l = c.loop-b in
    elim c.then-given-k.branch [
      | then-given-k-via-then-given-k w ↦
          agrees_end text given c.args.at l.b-index c.loop-b-test.true l.invariant.1 l.invariant.0 w.if-given-k.true
      | then-given-k-via-else-given-k+then-given-k-2 w ↦
          agrees_other text given c.args.at l.b-index c.loop-b-test.true l.invariant.1 l.invariant.0 w.if-given-k.false w.if-given-k-2.true
    ]

pub loop-b-preserved : goal.loop-b-preserved
loop-b-preserved c =
    let l = c.loop-b in (
      omega (arith, l.invariant.0),
      agrees_more c.args.text.now c.args.given.now c.args.at l.b-index c.loop-b-test.true l.invariant.1 l.invariant.0 c.if-given-k.false c.if-given-k-2.false,
    )

pub returns : goal.returns
returns c =
    let l = c.loop-b in
    let e : l.b-index ≡ length c.args.text.now = omega (arith, l.auto.b-index-end, c.loop-b-test.false) in
    agrees_all c.args.text.now c.args.given.now c.args.at e l.invariant.1 l.invariant.0
