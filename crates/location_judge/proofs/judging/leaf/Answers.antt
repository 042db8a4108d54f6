-- A segment, or a site where one may stand.
use mathlib.Core.Bool.{or-true}
use borrow.Author.Tests.{lt-ltb}
use Rattle.location_judge.proofs.Levels.{leaf_read}
use Rattle.location_judge.proofs.judging.leaf.Goals as goal
use Rattle.location_judge.proofs.judging.leaf.Goals.{then-far-via-then-far, then-far-via-else-far+then-found-lt8}

pub returns-then-far : goal.returns-then-far
returns-then-far c =
    leaf_read c.args.far c.in_ok-found.ensures c.ranges.top.fits c.is_wrong-wrong.ensures
    (elim c.then-far.branch [
      | then-far-via-then-far w ↦ rw w.if-far.true
      | then-far-via-else-far+then-found-lt8 w ↦ rw (lt-ltb c.in_ok-found.found.reach.marks 8 w.if-found-lt8.true, or-true)
    ])
