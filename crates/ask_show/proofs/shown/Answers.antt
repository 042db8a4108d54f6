-- `ask_show::shown` meets its contract.
use Rattle.ask_show.proofs.Parts.{points_none, points_so}
use native.Mathlib.Omega.{arith}
use Rattle.ask_show.proofs.shown.Goals as goal
use Rattle.ask_show.proofs.shown.Goals.{then-listing-x-via-then-listing-x, then-listing-x-via-else-listing-x+then-listing-x-2}

pub returns-then-listing-x : goal.returns-then-listing-x
returns-then-listing-x c =
    points_none c.args.x
    (elim c.then-listing-x.branch [
      | then-listing-x-via-then-listing-x w ↦ omega (arith, w.if-listing-x.true)
      | then-listing-x-via-else-listing-x+then-listing-x-2 w ↦ omega (arith, w.if-listing-x.false, w.if-listing-x-2.true)
    ])

pub returns : goal.returns
returns c = points_so c.args.x (omega (arith, c.if-listing-x.false, c.if-listing-x-2.false))
