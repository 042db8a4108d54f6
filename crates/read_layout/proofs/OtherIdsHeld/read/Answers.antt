use Rattle.read_layout.proofs.Elements.{id_reads}
use Rattle.read_layout.proofs.OtherIdsHeld.read.Goals as goal

pub returns : goal.returns
returns c = id_reads c.leaf_maybe.ensures
