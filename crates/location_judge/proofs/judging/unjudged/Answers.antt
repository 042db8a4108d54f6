use Prim.Native.Char.{code}
use Rattle.std.proofs.Math.Bool.{and-true, and-false}
use Rattle.location_judge.proofs.Signs.{decided, scanned_all, here, either_stands}
use Rattle.location_judge.proofs.judging.unjudged.Goals as goal

pub returns-then-b-eq100 : goal.returns-then-b-eq100
returns-then-b-eq100 c = either_stands c.loop-b.invariant c.loop-b-test.true c.then-b-eq100.either

pub returns-then-not-ranged : goal.returns-then-not-ranged
returns-then-not-ranged c =
    decided (rw (c.if-not-ranged.true, c.if-signed.true) at (here c.loop-b.invariant c.loop-b-test.true (code ",") c.if-b-eq44.true))

pub returns-then-signed-2 : goal.returns-then-signed-2
returns-then-signed-2 c = scanned_all c.loop-b.invariant c.loop-b-test.false (rw (c.if-signed-2.true, and-true))

pub returns-else-signed-2 : goal.returns-else-signed-2
returns-else-signed-2 c = scanned_all c.loop-b.invariant c.loop-b-test.false (rw (c.if-signed-2.false, and-false))
