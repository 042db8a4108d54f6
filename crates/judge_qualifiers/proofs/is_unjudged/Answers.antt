-- `judge_qualifiers::is_unjudged` meets its contract.
use Rattle.judge_qualifiers.proofs.Exceptions.{leaves_excepted, leaves_located}
use Rattle.judge_qualifiers.proofs.is_unjudged.Goals as goal

pub returns-then-excepted : goal.returns-then-excepted
returns-then-excepted c = leaves_excepted c.if-excepted.true

pub returns-in-Some : goal.returns-in-Some
returns-in-Some c = leaves_located _ c.if-excepted.false c.in-Some.is
