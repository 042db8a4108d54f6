-- `judge_coding::Codons::is_right` meets its contract.
use Rattle.judge_coding.proofs.Rights.{right_codes, right_same}
use Rattle.judge_coding.proofs.Codons.is_right.Goals as goal

pub returns-in-None : goal.returns-in-None
returns-in-None c = right_codes c.bytes_of-v.ensures c.in-None.is c.is_right.ensures

pub returns-in-Some : goal.returns-in-Some
returns-in-Some c = right_same c.bytes_of-v.ensures c.same.result c.in-Some.is c.bytes_of.ensures c.same.ensures
