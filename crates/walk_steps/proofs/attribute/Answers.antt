-- `walk_steps::attribute` meets its contract: up to the closing quote.
use Rattle.walk_steps.proofs.Attributes.{attribute_found}
use Rattle.walk_steps.proofs.attribute.Goals as goal

pub returns : goal.returns
returns c =
    let args = c.args in
    attribute_found args.name.now c.blanks.ensures c.past.ensures
    c.past-from.ensures c.until-to.ensures c.past-2.ensures
