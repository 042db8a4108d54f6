-- What the inner functions compute.
use Rattle.std.specs.Prelude.{ℕ, ◌+◌, ◌*◌, ◌-◌, ◌≤◌, Bool, ◌&&◌, cond, leb, Option, Some, None}
use Prim.Native.Char.{code}
use Rattle.paper.specs.Values.{is_digit, days_in}

-- b is one of low to high
abbrev pub between : ℕ → ℕ → ℕ → Bool
between low high b = leb low b && leb b high

-- the value of two digits, where they are digits
abbrev pub two_digits : ℕ → ℕ → Option ℕ
two_digits a b = cond (is_digit a && is_digit b) (Some ((a - code "0") * 10 + (b - code "0"))) None

-- there is such a day
pub record Day (year month day : ℕ) : Type 0 where
  pub year_real : 1 ≤ year
  pub month_real : (1 ≤ month) × (month ≤ 12)
  pub day_real : (1 ≤ day) × (day ≤ days_in year month)
