-- `read_tags::attribute` meets its contract: a gap, the name and `="` as one word, a text and `"`.
use Rattle.read_steps.proofs.Joins.{these_join}
use Rattle.read_steps.proofs.Fronts.{named_sharp}
use Rattle.read_tags.proofs.Tags.{attribute_reads}
use Rattle.read_tags.proofs.attribute.Goals as goal

pub returns : goal.returns
returns c =
    let n = c.args.name.now in
    attribute_reads n (named_sharp n c.requires.no_blank_first) c.gap.ensures (these_join c.word.ensures c.lit-a.ensures) c.text.ensures c.lit.ensures
