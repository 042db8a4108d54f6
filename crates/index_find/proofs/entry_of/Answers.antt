-- `index_find::entry_of` meets its contract: there is none, or the two parts.
use native.Mathlib.Omega.{arith}
use Rattle.index_find.proofs.Entries.{entry_zero, entry_above, entry_outside, entry_found}
use Rattle.index_find.proofs.entry_of.Goals as goal
use Rattle.index_find.proofs.entry_of.Goals.{then-j-eq0-via-then-j-eq0, then-j-eq0-via-else-j-eq0+then-body-j, then-j-eq0-via-else-j-eq0+else-body-j+then-index-j}

pub returns-then-j-eq0 : goal.returns-then-j-eq0
returns-then-j-eq0 c =
    elim c.then-j-eq0.branch [
      | then-j-eq0-via-then-j-eq0 w ↦ entry_zero w.if-j-eq0.true
      | then-j-eq0-via-else-j-eq0+then-body-j w ↦ entry_above w.if-body-j.true
      | then-j-eq0-via-else-j-eq0+else-body-j+then-index-j w ↦ entry_outside w.if-index-j.true
    ]

pub returns : goal.returns
returns c =
    entry_found c.if-j-eq0.false c.if-body-j.false c.past-at.ensures (omega arith) c.past.ensures (omega arith) c.part_at-key.ensures
    c.part_at-location.ensures
