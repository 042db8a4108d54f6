-- Numbers, dates and codes.
use Rattle.std.specs.Prelude.{ℕ, zero, suc, ◌+◌, ◌*◌, ◌-◌, ◌≤◌, ◌/◌, ◌%◌, ◌≡◌, Bool, ◌&&◌, ◌||◌, not, cond, List, [], ◌∷◌, ◌++◌, length, leb, eqb, ltb}
use Prim.Native.Char.{code}
use Rattle.paper.specs.Bytes.{bytes, all}

abbrev pub is_digit : ℕ → Bool
is_digit b = leb (code "0") b && leb b (code "9")

-- the value of digits that stand after digits of the value v
abbrev pub value_from : ℕ → List ℕ → ℕ
value_from v [] = v
value_from v (b ∷ w) = value_from (v * 10 + (b - code "0")) w

abbrev pub value_of : List ℕ → ℕ
value_of = value_from 0

-- there is a first digit, and it is not `0`
abbrev pub Leads : List ℕ → Type 0
Leads [] = ⊥
Leads (b ∷ w) = b ≡ code "0" → ⊥

-- w is the number n: "decimal digits, first not `0`, any length"
pub record Number (n : ℕ) (w : List ℕ) : Type 0 where
  pub digits : all is_digit w
  pub leads : Leads w
  pub counts : n ≡ value_of w

-- the digits of n before the text w; the first argument is at least their count
abbrev pub digits_before : ℕ → ℕ → List ℕ → List ℕ
digits_before zero n w = w
digits_before (suc d) n w = cond (ltb n 10) ((n + code "0") ∷ w) (digits_before d (n / 10) ((n % 10 + code "0") ∷ w))

-- n in decimal digits
abbrev pub decimal : ℕ → List ℕ
decimal n = digits_before (suc n) n []

-- ---- dates

abbrev pub is_leap : ℕ → Bool
is_leap y = eqb (y % 4) 0 && (not (eqb (y % 100) 0) || eqb (y % 400) 0)

-- the days of a month
abbrev pub days_in : ℕ → ℕ → ℕ
days_in y m =
    cond (eqb m 2) (cond (is_leap y) 29 28)
    (cond (eqb m 4 || eqb m 6 || eqb m 9 || eqb m 11) 30 31)

-- n digits
abbrev pub Digits : ℕ → List ℕ → Type 0
Digits n w = (length w ≡ n) × all is_digit w

-- "a real Gregorian CCYY-MM-DD, years 0001 to 9999"
pub record Date (w : List ℕ) : Type 0 where
  pub year : List ℕ
  pub month : List ℕ
  pub day : List ℕ
  pub is : w ≡ year ++ (bytes "-" ++ (month ++ (bytes "-" ++ day)))
  pub year_digits : Digits 4 year
  pub month_digits : Digits 2 month
  pub day_digits : Digits 2 day
  pub year_real : 1 ≤ value_of year
  pub month_real : (1 ≤ value_of month) × (value_of month ≤ 12)
  pub day_real : (1 ≤ value_of day) × (value_of day ≤ days_in (value_of year) (value_of month))

-- ---- codes

abbrev pub is_upper : ℕ → Bool
is_upper b = leb (code "A") b && leb b (code "Z")

abbrev pub is_lower : ℕ → Bool
is_lower b = leb (code "a") b && leb b (code "z")

-- "two letters A to Z", "two letters a to z"
abbrev pub Two : (ℕ → Bool) → List ℕ → Type 0
Two letter w = (length w ≡ 2) × all letter w
