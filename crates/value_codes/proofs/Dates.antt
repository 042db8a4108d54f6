-- A date is ten bytes: what each of them is.
use Prim.Native.Nat.{ℕ, ◌+◌, ◌*◌, ◌-◌}
use Prim.Native.Char.{code}
use native.Mathlib.Omega.{arith}
use mathlib.Core.Path.{◌≡◌, refl, sym, ap, ◌∙◌, subst}
use mathlib.Core.Bool.{Bool, true, false, ◌&&◌, cond, and-eq-true_iff}
use mathlib.Core.List.{List, [], ◌∷◌, ◌++◌}
use lib.ListN.{length, get_or}
use Rattle.std.specs.Prelude.{Option, Some, None}
use Rattle.std.proofs.lemmas.Option.{none-some, same_Some}
use Rattle.paper.specs.Bytes.{bytes, all, raw}
use Rattle.paper.specs.Values.{is_digit, value_of, Digits, Date}
use Rattle.value_codes.specs.Parts.{two_digits, Day}
use Rattle.value_words.specs.Reading.{Tells, OfRead}
use Rattle.value_words.proofs.Read.{raw_plain, raw_both, tells_read}
use Rattle.value_words.proofs.Tests.{spread}

-- ---- two digits

abbrev value : ℕ → ℕ → ℕ
value a b = (a - code "0") * 10 + (b - code "0")

pub two_value : (a b : ℕ) → is_digit a ≡ true → is_digit b ≡ true → two_digits a b ≡ Some (value a b)
two_value a b p q = rw (p, q) refl

two_some : (a b : ℕ) {n : ℕ} → two_digits a b ≡ Some n → (is_digit a ≡ true) × (is_digit b ≡ true) × (n ≡ value a b)
two_some a b {n} e = let t = go (is_digit a && is_digit b) refl e in let d = (and-eq-true_iff (is_digit a) (is_digit b)).0 t.0 in (d.0, d.1, t.1)
  where
    go : (t : Bool) → is_digit a && is_digit b ≡ t → cond t (Some (value a b)) None ≡ Some n → (is_digit a && is_digit b ≡ true) × (n ≡ value a b)
    go true q e = (q, sym (same_Some _ _ e))
    go false q e = absurd (none-some _ e)

value_two : (a b : ℕ) → value_of (a ∷ b ∷ []) ≡ value a b
value_two a b = omega arith

value_four : (a b c d : ℕ) → value_of (a ∷ b ∷ c ∷ d ∷ []) ≡ value a b * 100 + value c d
value_four a b c d = omega arith

-- ---- ten bytes

pub record Dated (w : List ℕ) : Type 0 where
  pub size : length w ≡ 10
  pub dash : get_or w 4 0 ≡ code "-"
  pub dash_two : get_or w 7 0 ≡ code "-"
  century : ℕ
  rest : ℕ
  month : ℕ
  day : ℕ
  pub century_is : two_digits (get_or w 0 0) (get_or w 1 0) ≡ Some century
  pub rest_is : two_digits (get_or w 2 0) (get_or w 3 0) ≡ Some rest
  pub month_is : two_digits (get_or w 5 0) (get_or w 6 0) ≡ Some month
  pub day_is : two_digits (get_or w 8 0) (get_or w 9 0) ≡ Some day
  pub real : Day (century * 100 + rest) month day

-- the parts of a date, byte by byte
two_bytes : (l : List ℕ) → Digits 2 l → (l ≡ get_or l 0 0 ∷ get_or l 1 0 ∷ []) × (is_digit (get_or l 0 0) ≡ true) × (is_digit (get_or l 1 0) ≡ true)
two_bytes l d = let e = spread 2 l d.0 in let a = subst (all is_digit) e d.1 in (e, a.0, a.1.0)

four_bytes : (l : List ℕ) → Digits 4 l
    → (l ≡ get_or l 0 0 ∷ get_or l 1 0 ∷ get_or l 2 0 ∷ get_or l 3 0 ∷ []) × all is_digit (get_or l 0 0 ∷ get_or l 1 0 ∷ get_or l 2 0 ∷ get_or l 3 0 ∷ [])
four_bytes l d = let e = spread 4 l d.0 in (e, subst (all is_digit) e d.1)

pub date_dated : {w : List ℕ} → Date w → Dated w
date_dated {w} x =
    let y = four_bytes x.year x.year_digits in
    let m = two_bytes x.month x.month_digits in
    let d = two_bytes x.day x.day_digits in
    let at : ℕ → ℕ = λ i. get_or x.year i 0 in
    let p = y.1 in
    let year = ap value_of y.0 ∙ value_four (at 0) (at 1) (at 2) (at 3) in
    let month = ap value_of m.0 ∙ value_two (get_or x.month 0 0) (get_or x.month 1 0) in
    let day = ap value_of d.0 ∙ value_two (get_or x.day 0 0) (get_or x.day 1 0) in
    subst Dated (sym (x.is ∙ (λ i. y.0 i ++ (bytes "-" ++ (m.0 i ++ (bytes "-" ++ d.0 i))))))
    (record {
      size = refl;
      dash = refl;
      dash_two = refl;
      century = value (at 0) (at 1);
      rest = value (at 2) (at 3);
      month = value (get_or x.month 0 0) (get_or x.month 1 0);
      day = value (get_or x.day 0 0) (get_or x.day 1 0);
      century_is = two_value (at 0) (at 1) p.0 p.1.0;
      rest_is = two_value (at 2) (at 3) p.1.1.0 p.1.1.1.0;
      month_is = two_value (get_or x.month 0 0) (get_or x.month 1 0) m.1 m.2;
      day_is = two_value (get_or x.day 0 0) (get_or x.day 1 0) d.1 d.2;
      real = record {
        year_real = rw year at x.year_real;
        month_real = rw month at x.month_real;
        day_real = rw (day, year, month) at x.day_real;
      };
    })

pub dated_date : {w : List ℕ} → Dated w → Date w
dated_date {w} x =
    let at : ℕ → ℕ = λ i. get_or w i 0 in
    let e = spread 10 w x.size in
    let c = two_some (at 0) (at 1) x.century_is in
    let r = two_some (at 2) (at 3) x.rest_is in
    let m = two_some (at 5) (at 6) x.month_is in
    let d = two_some (at 8) (at 9) x.day_is in
    let real = x.real in
    let year : value_of (at 0 ∷ at 1 ∷ at 2 ∷ at 3 ∷ []) ≡ x.century * 100 + x.rest = value_four (at 0) (at 1) (at 2) (at 3) ∙ rw (c.2, r.2) refl in
    let month : value_of (at 5 ∷ at 6 ∷ []) ≡ x.month = value_two (at 5) (at 6) ∙ sym m.2 in
    let day : value_of (at 8 ∷ at 9 ∷ []) ≡ x.day = value_two (at 8) (at 9) ∙ sym d.2 in
    record {
      year = at 0 ∷ at 1 ∷ at 2 ∷ at 3 ∷ [];
      month = at 5 ∷ at 6 ∷ [];
      day = at 8 ∷ at 9 ∷ [];
      is = e ∙ (λ i. at 0 ∷ at 1 ∷ at 2 ∷ at 3 ∷ x.dash i ∷ at 5 ∷ at 6 ∷ x.dash_two i ∷ at 8 ∷ at 9 ∷ []);
      year_digits = (refl, (c.0, (c.1, (r.0, (r.1, tt)))));
      month_digits = (refl, (m.0, (m.1, tt)));
      day_digits = (refl, (d.0, (d.1, tt)));
      year_real = rw year real.year_real;
      month_real = rw month real.month_real;
      day_real = rw (day, year, month) real.day_real;
    }

pub raw_date : (v : List ℕ) → Date v → raw v ≡ v
raw_date v x =
    let digits = raw_plain is_digit refl in
    let day = raw_both (bytes "-") x.day refl (digits x.day x.day_digits.1) in
    let month = raw_both x.month (bytes "-" ++ x.day) (digits x.month x.month_digits.1) day in
    let rest = raw_both (bytes "-") (x.month ++ (bytes "-" ++ x.day)) refl month in
    ap raw x.is ∙ raw_both x.year _ (digits x.year x.year_digits.1) rest ∙ sym x.is

-- ---- a test of the bytes

pub no_date : {w : List ℕ} → ¬ Dated w → OfRead w Date false
no_date n = tells_read Date raw_date false (λ x. n (date_dated x))

-- no two digits where a date has some
pub not_some : {o : Option ℕ} → o ≡ None → {n : ℕ} → o ≡ Some n → ⊥
not_some e f = none-some _ (sym e ∙ f)

module _ {w : List ℕ} {a b m d : ℕ}
    (p : two_digits (get_or w 0 0) (get_or w 1 0) ≡ Some a)
    (q : two_digits (get_or w 2 0) (get_or w 3 0) ≡ Some b)
    (y : two_digits (get_or w 5 0) (get_or w 6 0) ≡ Some m)
    (z : two_digits (get_or w 8 0) (get_or w 9 0) ≡ Some d) where
  pub a_date : length w ≡ 10 → get_or w 4 0 ≡ code "-" → get_or w 7 0 ≡ code "-" → (r : Bool) → Tells r (Day (a * 100 + b) m d) → OfRead w Date r
  a_date s h k true t =
      tells_read Date raw_date true
      (dated_date (record {
        size = s;
        dash = h;
        dash_two = k;
        century = a;
        rest = b;
        month = m;
        day = d;
        century_is = p;
        rest_is = q;
        month_is = y;
        day_is = z;
        real = t;
      }))
  a_date s h k false t = no_date (λ x. t (same_day x))
    where
      one : {o : Option ℕ} {i j : ℕ} → o ≡ Some i → o ≡ Some j → i ≡ j
      one e f = same_Some _ _ (sym e ∙ f)

      same_day : Dated w → Day (a * 100 + b) m d
      same_day x = rw (one p x.century_is, one q x.rest_is, one y x.month_is, one z x.day_is) x.real
