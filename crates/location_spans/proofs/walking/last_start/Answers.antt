use Prim.Native.Nat.{◌+◌, ◌-◌}
use native.Mathlib.Omega.{arith}
use mathlib.Core.Path.{◌≡◌}
use Rattle.location_spans.proofs.Commas.{searched_start, searched_next, searched_found, searched_end}
use Rattle.location_spans.proofs.walking.last_start.Goals as goal

pub loop-i-init : goal.loop-i-init
loop-i-init c = searched_start c.requires.0

pub returns-then-s-i-eq44 : goal.returns-then-s-i-eq44
returns-then-s-i-eq44 c =
    let l = c.loop-i in
    let e : l.i - 1 + 1 ≡ l.i = omega (arith, c.loop-i-test.true) in
    rw e (searched_found l.invariant c.loop-i-test.true c.if-s-i-eq44.true)

pub loop-i-preserved : goal.loop-i-preserved
loop-i-preserved c = searched_next c.loop-i.invariant c.loop-i-test.true c.if-s-i-eq44.false

pub returns : goal.returns
returns c =
    let l = c.loop-i in
    let e : l.i ≡ c.args.low = omega (arith, l.invariant.after, c.loop-i-test.false) in
    rw e at (searched_end l.invariant c.loop-i-test.false)
