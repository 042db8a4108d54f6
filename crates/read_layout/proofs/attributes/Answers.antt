-- `read_layout::attributes` meets its contract: one attribute after another.
use mathlib.Core.Path.{refl}
use Rattle.read_layout.proofs.Wholes.{attributes_reads}
use borrow.Author.Rules.{rules}
use Rattle.read_layout.proofs.attributes.Goals as goal

pub attribute-a-requires : goal.attribute-a-requires
attribute-a-requires c = record { class_table = search rules; no_blank_first = refl }

pub attribute_maybe-b-requires : goal.attribute_maybe-b-requires
attribute_maybe-b-requires c = record { class_table = search rules; no_blank_first = refl }

pub attribute_maybe-c-requires : goal.attribute_maybe-c-requires
attribute_maybe-c-requires c = record { class_table = search rules; no_blank_first = refl }

pub attribute_maybe-d-requires : goal.attribute_maybe-d-requires
attribute_maybe-d-requires c = record { class_table = search rules; no_blank_first = refl }

pub attribute_maybe-requires : goal.attribute_maybe-requires
attribute_maybe-requires c = record { class_table = search rules; no_blank_first = refl }

pub returns : goal.returns
returns c =
    let attribute = c.attribute-a in
    let attribute-maybe = c.attribute_maybe-b in
    attributes_reads attribute.ensures attribute-maybe.ensures c.attribute_maybe-c.ensures
    c.attribute_maybe-d.ensures c.attribute_maybe.ensures
