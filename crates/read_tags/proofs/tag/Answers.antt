-- `read_tags::tag` meets its contract: `<` and the name are one word.
use Rattle.read_steps.proofs.Joins.{these_join}
use Rattle.read_tags.proofs.tag.Goals as goal

pub returns : goal.returns
returns c = these_join c.lit.ensures c.word.ensures
