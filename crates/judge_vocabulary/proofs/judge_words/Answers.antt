-- `judge_vocabulary::judge_words` meets its contract.
use mathlib.Core.Path.{sym, ◌∙◌}
use Rattle.judge_vocabulary.proofs.Rows.{of_kind, of_none}
use Rattle.judge_vocabulary.proofs.judge_words.Goals as goal

pub returns-then-is_known : goal.returns-then-is_known
returns-then-is_known c = of_kind c.args.kind (sym c.is_known.ensures ∙ c.if-is_known.true) c.judge_row.ensures

pub returns : goal.returns
returns c = of_none c.args.kind (sym c.is_known.ensures ∙ c.if-is_known.false)
