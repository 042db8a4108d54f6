-- `judge_coding::Codons::check` meets its contract.
use Rattle.judge_coding.proofs.Rights.{checks_other, checks_absent, checks_settled, checks_right, checks_wrong}
use Rattle.judge_coding.proofs.Codons.check.Goals as goal

pub returns-then-not-same : goal.returns-then-not-same
returns-then-not-same c = checks_other c.bytes_of.ensures c.same.ensures c.if-not-same.true

pub returns-in_default : goal.returns-in_default
returns-in_default c = checks_absent c.bytes_of.ensures c.same.ensures c.if-not-same.false c.in_default.is c.earlier.ensures

pub returns-then-is_settled : goal.returns-then-is_settled
returns-then-is_settled c =
    checks_settled c.bytes_of.ensures c.same.ensures c.if-not-same.false c.in-Some.is c.if-is_settled.true c.is_settled.ensures

pub returns-then-is_right : goal.returns-then-is_right
returns-then-is_right c =
    checks_right c.bytes_of.ensures c.same.ensures c.if-not-same.false c.in-Some.is c.is_right.ensures c.if-is_right.true

pub returns : goal.returns
returns c =
    checks_wrong c.bytes_of.ensures c.same.ensures c.if-not-same.false c.in-Some.is c.is_right.ensures c.if-is_right.false
    c.earlier-2.ensures
