-- `judge_qualifiers::stated` meets its contract.
use native.Mathlib.Omega.{arith}
use mathlib.Core.Path.{refl}
use mathlib.Core.Logic.{inl, inr}
use Rattle.paper.specs.Bytes.{bytes}
use Rattle.paper.proofs.Decimal.{decimal_number}
use Rattle.judge_qualifiers.proofs.Values.{states, states_wrong}
use Rattle.judge_qualifiers.proofs.stated.Goals as goal

pub returns-then-value_is : goal.returns-then-value_is
returns-then-value_is c =
    states 1 (bytes "1") refl (inl refl) (decimal_number 1 (omega arith)) c.if-value_is.true c.value_is.ensures

pub returns-then-value_is-2 : goal.returns-then-value_is-2
returns-then-value_is-2 c =
    states 2 (bytes "2") refl (inr (inl refl)) (decimal_number 2 (omega arith)) c.if-value_is-2.true c.value_is-2.ensures

pub returns-then-value_is-3 : goal.returns-then-value_is-3
returns-then-value_is-3 c =
    states 3 (bytes "3") refl (inr (inr refl)) (decimal_number 3 (omega arith)) c.if-value_is-3.true c.value_is-3.ensures

pub returns : goal.returns
returns c =
    let value-is = c.value_is in
    let if1 = c.if-value_is in
    states_wrong if1.false value-is.ensures c.if-value_is-2.false
    c.value_is-2.ensures c.if-value_is-3.false c.value_is-3.ensures
