-- `index_find::body_of` meets its contract: 30, 31, or the body.
use native.Mathlib.Omega.{arith}
use Rattle.index_find.proofs.Bodies.{none_zero, none_above, body_skipped, body_found}
use Rattle.index_find.proofs.body_of.Goals as goal
use Rattle.index_find.proofs.body_of.Goals.{then-k-eq0-via-then-k-eq0, then-k-eq0-via-else-k-eq0+then-number_at-k}

pub returns-then-k-eq0 : goal.returns-then-k-eq0
returns-then-k-eq0 c =
    elim c.then-k-eq0.branch [
      | then-k-eq0-via-then-k-eq0 w ↦ none_zero w.if-k-eq0.true
      | then-k-eq0-via-else-k-eq0+then-number_at-k w ↦ none_above w.number_at.ensures.is w.if-number_at-k.true
    ]

pub returns-then-n-eq0 : goal.returns-then-n-eq0
returns-then-n-eq0 c =
    body_skipped c.if-k-eq0.false c.number_at.ensures.is c.if-number_at-k.false c.number_at-start.ensures.is c.number_at-size.ensures.is
    c.number_at-n.ensures.is c.if-n-eq0.true

pub returns : goal.returns
returns c =
    body_found c.if-k-eq0.false c.number_at.ensures.is c.if-number_at-k.false c.number_at-start.ensures.is c.number_at-size.ensures.is
    c.number_at-n.ensures.is c.if-n-eq0.false c.molecule-kind.ensures c.part_at-residues.ensures (omega arith) (omega arith) (omega arith)
