-- `read_layout::inner` meets its contract: the element from its parts.
use Rattle.read_layout.proofs.Elements.{ids_facts, no_id, held_reads}
use Rattle.read_layout.proofs.inner.Goals as goal

pub held_maybe-e-requires : goal.held_maybe-e-requires
held_maybe-e-requires c = record { class_table = c.requires; children = ids_facts; void = no_id }

pub returns : goal.returns
returns c =
    held_reads c.tag.ensures c.enter-a.ensures c.leaf-b.ensures c.leaf-c.ensures c.leaf-d.ensures c.held_maybe-e.ensures
    c.table_maybe-f.ensures c.leaf-g.ensures c.leave.ensures
