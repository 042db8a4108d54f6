-- `value_vocabulary::row_in` meets its contract: a text's number is below 255, and the row is at the place of its number.
use Rattle.value_vocabulary.proofs.Keyed.{no_row, has_row}
use Rattle.value_vocabulary.proofs.row_in.Goals as goal

pub returns-in-None : goal.returns-in-None
returns-in-None c = no_row c.args.rows (rw c.in-None.is at c.find.ensures.0)

pub returns-in-Some : goal.returns-in-Some
returns-in-Some c = has_row c.args.rows (rw c.in-Some.is at c.find.ensures.0) c.pair_at.ensures.0
