-- Numbers: each from 1 on is written in one way, as `decimal` writes it.
use Prim.Native.Nat.{ℕ, zero, suc, ◌+◌, ◌*◌, ◌-◌, ◌/◌, ◌%◌, ◌≤◌, ◌<◌}
use Prim.Native.Char.{code}
use mathlib.Core.Path.{◌≡◌, refl, sym, ap, ◌∙◌}
use mathlib.Core.Bool.{Bool, true, false, and-eq-true_iff}
use mathlib.Core.List.{List, [], ◌∷◌, ◌++◌, append-nil}
use native.Mathlib.Omega.{arith}
use lib.Dec.{leb, ltb}
use borrow.Author.Tests.{leb-true, le-leb, le-ltb, lt-ltb, ltb-true, ltb-false}
use Rattle.paper.specs.Bytes.{all}
use Rattle.paper.specs.Values.{is_digit, value_from, value_of, Leads, Number, digits_before, decimal}

pub digit_bounds : (b : ℕ) → is_digit b ≡ true → (code "0" ≤ b) × (b ≤ code "9")
digit_bounds b e =
    let p = (and-eq-true_iff (leb (code "0") b) (leb b (code "9"))).0 e in
    (leb-true (code "0") b p.0, leb-true b (code "9") p.1)

pub digit_is : (b : ℕ) → code "0" ≤ b → b ≤ code "9" → is_digit b ≡ true
digit_is b h k = rw (le-leb (code "0") b, le-leb b (code "9"))

-- the value of digits of the value v and then the digit b
abbrev pub push : ℕ → ℕ → ℕ
push v b = v * 10 + (b - code "0")

-- the last digit of n, before w
abbrev last_before : ℕ → List ℕ → List ℕ
last_before n w = (n % 10 + code "0") ∷ w

-- ---- what `decimal` writes is a number

-- x is a text of n and then the digits w
abbrev Writes : ℕ → List ℕ → List ℕ → Type 0
Writes n w x = all is_digit x × (1 ≤ n → Leads x) × (value_of x ≡ value_from n w)

writes : (f n : ℕ) (w : List ℕ) → n < f → all is_digit w → Writes n w (digits_before f n w)
writes zero n w h a = absurd (omega arith)
writes (suc f) n w h a = go (ltb n 10) refl (writes f (n / 10) (last_before n w))
  where
    go : (t : Bool) → ltb n 10 ≡ t
        → (n / 10 < f → all is_digit (last_before n w) → Writes (n / 10) (last_before n w) (digits_before f (n / 10) (last_before n w)))
        → Writes n w (digits_before (suc f) n w)
    go true e ih =
        let k = ltb-true n 10 e in
        let v : push 0 (n + code "0") ≡ n = omega arith in
        rw e ((digit_is (n + code "0") (omega arith) (omega arith), a), (λ p z. omega arith), ap (λ (m : ℕ). value_from m w) v)
    go false e ih =
        let k = ltb-false n 10 e in
        let y = ih (omega arith) (digit_is (n % 10 + code "0") (omega arith) (omega arith), a) in
        let v : push (n / 10) (n % 10 + code "0") ≡ n = omega arith in
        rw e (y.0, (λ p. y.1 (omega arith)), y.2 ∙ ap (λ (m : ℕ). value_from m w) v)

pub decimal_number : (n : ℕ) → 1 ≤ n → Number n (decimal n)
decimal_number n h =
    let y = writes (suc n) n [] (omega arith) tt in
    record { digits = y.0; leads = y.1 h; counts = sym y.2 }

-- ---- a number is what `decimal` writes

-- any first argument above n gives the same digits
fuel : (f g n : ℕ) (w : List ℕ) → n < f → n < g → digits_before f n w ≡ digits_before g n w
fuel zero g n w p q = absurd (omega arith)
fuel (suc f) zero n w p q = absurd (omega arith)
fuel (suc f) (suc g) n w p q = go (ltb n 10) refl (fuel f g (n / 10) (last_before n w))
  where
    go : (t : Bool) → ltb n 10 ≡ t
        → (n / 10 < f → n / 10 < g → digits_before f (n / 10) (last_before n w) ≡ digits_before g (n / 10) (last_before n w))
        → digits_before (suc f) n w ≡ digits_before (suc g) n w
    go true e ih = rw e
    go false e ih = let k = ltb-false n 10 e in rw e (ih (omega arith) (omega arith))

abbrev before : ℕ → List ℕ → List ℕ
before n w = digits_before (suc n) n w

last_digit : (n b : ℕ) (w : List ℕ) → is_digit b ≡ true → 1 ≤ n → before (push n b) w ≡ before n (b ∷ w)
last_digit n b w d h =
    let k = digit_bounds b d in
    let m = push n b in
    let p : m / 10 ≡ n = omega arith in
    let q : m % 10 + code "0" ≡ b = omega arith in
    rw (le-ltb m 10 (omega arith), p, q) (fuel m (suc n) n (b ∷ w) (omega arith) (omega arith))

-- the digits z behind n
more_digits : (z : List ℕ) (n : ℕ) (w : List ℕ) → all is_digit z → 1 ≤ n → before (value_from n z) w ≡ before n (z ++ w)
more_digits [] n w a h = refl
more_digits (b ∷ z) n w a h = more_digits z (push n b) w a.1 (omega arith) ∙ last_digit n b (z ++ w) a.0 h

first_positive : (b : ℕ) → is_digit b ≡ true → (b ≡ code "0" → ⊥) → 1 ≤ push 0 b
first_positive b d l = let h = digit_bounds b d in omega arith

pub number_decimal : {n : ℕ} {w : List ℕ} → Number n w → w ≡ decimal n
number_decimal {n} {w = []} x = absurd x.leads
number_decimal {n} {w = b ∷ z} x =
    let v = push 0 b in
    let h = digit_bounds b x.digits.0 in
    let e : v + code "0" ≡ b = omega arith in
    let f : before v z ≡ b ∷ z = rw (lt-ltb v 10 (omega arith), e) in
    rw x.counts (sym (more_digits z v [] x.digits.1 (first_positive b x.digits.0 x.leads) ∙ rw append-nil f))

pub number_once : {n m : ℕ} {w : List ℕ} → Number n w → Number m w → n ≡ m
number_once x y = x.counts ∙ sym y.counts

pub value_grows : (n : ℕ) (z : List ℕ) → n ≤ value_from n z
value_grows n [] = omega arith
value_grows n (b ∷ z) = let h = value_grows (push n b) z in omega arith

pub number_positive : {n : ℕ} {w : List ℕ} → Number n w → 1 ≤ n
number_positive {n} {w = []} x = absurd x.leads
number_positive {n} {w = b ∷ z} x = omega (arith, x.counts, value_grows (push 0 b) z, first_positive b x.digits.0 x.leads)
