-- `read_steps::end` meets its contract: the place is at the end of the text, or before it.
use native.Mathlib.Omega.{arith}
use lib.ListN.{drop, length-drop}
use Rattle.read_steps.proofs.Leaves.{end_took, end_lost}
use Rattle.read_steps.proofs.Steps.{found, lacks}
use Rattle.read_steps.proofs.end.Goals as goal

pub returns-then-next-s-clause-passes : goal.returns-then-next-s-clause-passes
returns-then-next-s-clause-passes c =
    let p = c.in_ok-next.field-0.next in
    let s = c.args.s.now in
    lacks c.in_ok-next.was (omega (arith, c.max.ensures)) (end_lost (drop p s) p (omega (arith, length-drop p s)))

pub returns-else-next-s-clause-passes : goal.returns-else-next-s-clause-passes
returns-else-next-s-clause-passes c =
    let p = c.in_ok-next.field-0.next in
    let s = c.args.s.now in
    found c.in_ok-next.was (omega arith) c.max-else-next-s.ensures (end_took (drop p s) p (omega (arith, length-drop p s)))
