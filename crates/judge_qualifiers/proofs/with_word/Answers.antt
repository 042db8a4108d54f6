-- `judge_qualifiers::with_word` meets its contract.
use Rattle.judge_qualifiers.proofs.Words.{word_passed}
use Rattle.judge_qualifiers.proofs.with_word.Goals as goal
use borrow.Author.Rules.{rules}

pub returns : goal.returns
returns c = word_passed (search rules)
