use Rattle.read_layout.proofs.Elements.{qualifier_element, qualifiers_last}
use Rattle.read_layout.proofs.QualifiersHeld.read.Goals as goal

pub many-requires : goal.many-requires
many-requires c = record { class_table = c.requires; element = qualifier_element; last = qualifiers_last }
