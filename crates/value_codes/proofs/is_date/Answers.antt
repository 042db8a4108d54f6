-- `value_codes::is_date` meets its contract: a date is written as it reads, and is ten bytes, of each of which a test tells.
use mathlib.Core.Path.{sym, ◌∙◌}
use Rattle.value_codes.proofs.Dates.{no_date, not_some, a_date}
use Rattle.value_codes.proofs.is_date.Goals as goal
use Rattle.value_codes.proofs.is_date.Goals.{then-w-ne10-via-then-w-ne10, then-w-ne10-via-else-w-ne10+then-w-ne45, then-w-ne10-via-else-w-ne10+else-w-ne45+then-w-ne45-2}

pub returns-then-w-ne10 : goal.returns-then-w-ne10
returns-then-w-ne10 c =
    no_date (λ x.
    elim c.then-w-ne10.branch [
      | then-w-ne10-via-then-w-ne10 w ↦ w.if-w-ne10.true x.size
      | then-w-ne10-via-else-w-ne10+then-w-ne45 w ↦ w.if-w-ne45.true x.dash
      | then-w-ne10-via-else-w-ne10+else-w-ne45+then-w-ne45-2 w ↦ w.if-w-ne45-2.true x.dash_two
    ])

pub returns-in_default : goal.returns-in_default
returns-in_default c = no_date (λ x. not_some (sym c.two_digits.ensures ∙ c.in_default.is) x.century_is)

pub returns-in_default-two_digits : goal.returns-in_default-two_digits
returns-in_default-two_digits c = no_date (λ x. not_some (sym c.two_digits-2.ensures ∙ c.in_default-two_digits.is) x.rest_is)

pub returns-in_default-two_digits-2 : goal.returns-in_default-two_digits-2
returns-in_default-two_digits-2 c = no_date (λ x. not_some (sym c.two_digits-3.ensures ∙ c.in_default-two_digits-2.is) x.month_is)

pub returns-in_default-two_digits-3 : goal.returns-in_default-two_digits-3
returns-in_default-two_digits-3 c = no_date (λ x. not_some (sym c.two_digits-4.ensures ∙ c.in_default-two_digits-3.is) x.day_is)

pub returns : goal.returns
returns c =
    a_date (sym c.two_digits.ensures ∙ c.in-Some.is)
    (sym c.two_digits-2.ensures ∙ c.in-Some-two_digits.is)
    (sym c.two_digits-3.ensures ∙ c.in-Some-two_digits-2.is)
    (sym c.two_digits-4.ensures ∙ c.in-Some-two_digits-3.is)
    c.if-w-ne10.false c.if-w-ne45.false c.if-w-ne45-2.false c.is_day.result c.is_day.ensures
