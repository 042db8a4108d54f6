-- `walk_steps::attribute_maybe` meets its contract: the attribute, or nothing.
use Rattle.walk_steps.proofs.Attributes.{attribute_absent, attribute_present}
use Rattle.walk_steps.proofs.attribute_maybe.Goals as goal

pub returns-then-begins : goal.returns-then-begins
returns-then-begins c =
    let args = c.args in
    attribute_present args.name.now c.blanks.ensures c.if-begins.true
    c.begins.ensures c.attribute-next.ensures

pub returns-else-begins : goal.returns-else-begins
returns-else-begins c =
    let args = c.args in
    attribute_absent args.name.now c.blanks.ensures c.if-begins.false c.begins.ensures
