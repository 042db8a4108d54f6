-- `judge_texts::length_of` meets its contract.
use Rattle.judge_texts.proofs.Sizes.{length_by}
use Rattle.judge_texts.proofs.length_of.Goals as goal

pub returns : goal.returns
returns c = length_by c.args.w.now c.args.n c.characters.ensures
