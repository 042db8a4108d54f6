-- `walk_seek::item_over` meets its contract.
use Rattle.walk_items.proofs.Sequences.{qualifier_over}
use Rattle.walk_seek.proofs.Ahead.{sequence_over}
use Rattle.walk_seek.proofs.item_over.Goals as goal

pub returns-in-Sequence : goal.returns-in-Sequence
returns-in-Sequence c = rw c.in-Sequence.is (sequence_over c.sequence.ensures)

pub returns-in-Feature : goal.returns-in-Feature
returns-in-Feature c = rw c.in-Feature.is c.feature_over.ensures

pub returns-in-Qualifier : goal.returns-in-Qualifier
returns-in-Qualifier c = rw c.in-Qualifier.is (qualifier_over c.qualifier.ensures)
