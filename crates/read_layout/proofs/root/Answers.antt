-- `read_layout::root` meets its contract: the element from its parts.
use Rattle.paper.specs.Bytes.{bytes}
use Rattle.read_tags.proofs.Tags.{spoken_element}
use Rattle.read_layout.proofs.Header.{sequence_element}
use Rattle.read_layout.proofs.Wholes.{root_reads, titles_next, titles_reads, sequences_last, sequences_reads}
use Rattle.read_layout.proofs.root.Goals as goal

pub many-d-requires : goal.many-d-requires
many-d-requires c = record { class_table = c.requires; element = spoken_element (bytes "InventionTitle"); last = titles_next }

pub many-f-requires : goal.many-f-requires
many-f-requires c = record { class_table = c.requires; element = sequence_element; last = sequences_last }

pub returns : goal.returns
returns c =
    root_reads c.tag-a.ensures c.attributes.ensures c.enter-b.ensures c.introduction-c.ensures
    (titles_reads c.read.ensures c.many-d.ensures) c.leaf-e.ensures
    (sequences_reads c.read-2.ensures c.many-f.ensures) c.close.ensures
