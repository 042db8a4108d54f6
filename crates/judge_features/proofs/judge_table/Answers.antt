-- `judge_features::judge_table` meets its contract.
use Rattle.judge_features.proofs.Sums.{table_missing, table_there}
use Rattle.judge_features.proofs.judge_table.Goals as goal

pub returns-in_default : goal.returns-in_default
returns-in_default c = table_missing c.in_default.is c.no_features.ensures c.sum_up.ensures

pub returns : goal.returns
returns c = table_there c.in-Some.table c.in-Some.is c.judge_features-a.ensures c.sum_up-2.ensures
