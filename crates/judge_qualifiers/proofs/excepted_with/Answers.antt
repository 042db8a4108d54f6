-- `judge_qualifiers::excepted_with` meets its contract.
use mathlib.Core.Path.{sym, ◌∙◌}
use mathlib.Core.Bool.{true≢false}
use borrow.Author.Tests.{ne_eqb}
use Rattle.judge_qualifiers.proofs.Exceptions.{excepts_before, excepts_name, excepts_other, excepts_code}
use Rattle.judge_qualifiers.proofs.excepted_with.Goals as goal
use Rattle.judge_qualifiers.proofs.excepted_with.Goals.{then-excepted, else-excepted}

pub returns-then-is_excepted : goal.returns-then-is_excepted
returns-then-is_excepted c =
    let e = c.if-is_excepted.true in
    elim c.if-excepted.branch [
      | then-excepted w ↦ rw e (excepts_before w.if-excepted.true)
      | else-excepted w ↦ rw e (excepts_name (sym w.value-is ∙ e) w.is_excepted.ensures)
    ]

pub returns-then-name-eq-TRANSL_TABLE : goal.returns-then-name-eq-TRANSL_TABLE
returns-then-name-eq-TRANSL_TABLE c =
    let e = c.if-is_excepted.false in
    elim c.if-excepted.branch [
      | then-excepted w ↦ absurd (true≢false (sym w.if-excepted.true ∙ sym w.value-is ∙ e))
      | else-excepted w ↦
          excepts_code w.if-excepted.false (sym w.value-is ∙ e) w.is_excepted.ensures c.value_is.result
          c.if-name-eq-TRANSL_TABLE.true c.value_is.ensures
    ]

pub returns-else-name-eq-TRANSL_TABLE : goal.returns-else-name-eq-TRANSL_TABLE
returns-else-name-eq-TRANSL_TABLE c =
    let e = c.if-is_excepted.false in
    elim c.if-excepted.branch [
      | then-excepted w ↦ absurd (true≢false (sym w.if-excepted.true ∙ sym w.value-is ∙ e))
      | else-excepted w ↦
          rw (ne_eqb _ _ c.if-name-eq-TRANSL_TABLE.false)
          (excepts_other w.if-excepted.false (sym w.value-is ∙ e) w.is_excepted.ensures c.if-name-eq-TRANSL_TABLE.false)
    ]
