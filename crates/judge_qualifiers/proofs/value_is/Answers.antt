-- `judge_qualifiers::value_is` meets its contract.
use Rattle.judge_qualifiers.proofs.Values.{value_present}
use Rattle.judge_qualifiers.proofs.value_is.Goals as goal

pub returns-in-Some : goal.returns-in-Some
returns-in-Some c = value_present c.same.result c.in-Some.is c.bytes_of.ensures c.same.ensures
