-- `read_layout::many` meets its contract, by the laws of the element.
use native.Mathlib.Omega.{arith}
use Rattle.read_steps.proofs.Steps.{step_is, step_from}
use Rattle.read_tags.proofs.Tags.{items_stop, items_more, item_onwards}
use Rattle.read_layout.proofs.many.Goals as goal

pub loop-c-init : goal.loop-c-init
loop-c-init g c = λ d e. step_from c.in_ok-next.was e

pub loop-c-smaller : goal.loop-c-smaller
loop-c-smaller g c =
    let e = c.requires in
    let o = item_onwards e.element _ e.last (step_is c.read.ensures c.in-Ok.is) in
    omega (arith, o.0, o.1)

pub loop-c-preserved : goal.loop-c-preserved
loop-c-preserved g c =
    let e = c.requires in
    λ d r. c.loop-c.invariant d (items_more e.element _ e.last (step_is c.read.ensures c.in-Ok.is) r)

pub returns-in-Err : goal.returns-in-Err
returns-in-Err g c =
    let e = c.requires in
    c.loop-c.invariant _ (items_stop e.element _ e.last (step_is c.read.ensures c.in-Err.is))
