-- `read_tags::spoken` meets its contract: the tag, the attribute, what follows them, and the blanks after the element.
use mathlib.Core.Path.{refl}
use Rattle.read_steps.proofs.Steps.{step_from}
use Rattle.read_tags.proofs.Tags.{spoken_reads, child_reads}
use Rattle.read_tags.proofs.spoken.Goals as goal

pub attribute-b-requires : goal.attribute-b-requires
attribute-b-requires c = record { class_table = c.requires; no_blank_first = refl }

pub returns : goal.returns
returns c = step_from c.in_ok-c.was (child_reads (spoken_reads c.tag-a.ensures c.attribute-b.ensures c.content.ensures) c.blanks.ensures)
