-- `trial::trial_is_right` meets its contract: the answer of `is_right`, as a number.
use Rattle.protein_code.proofs.Codes.{code_1, coded_1}
use Rattle.trial.proofs.Answers.{compared}
use Rattle.trial.proofs.trial_is_right.Goals as goal

pub invariant_of-coding : goal.invariant_of-coding
invariant_of-coding c = record { coded = coded_1 c.code_table-code.ensures }

pub returns : goal.returns
returns c = compared (code_1 c.code_table-code.ensures) c.is_right.result c.is_right.ensures c.from.ensures
