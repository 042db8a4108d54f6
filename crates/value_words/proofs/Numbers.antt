-- Decimal digits, read from the front.
use Prim.Native.Nat.{ℕ, ◌+◌, ◌≤◌, ◌<◌}
use Prim.Native.Char.{code}
use native.Mathlib.Numerals.{add-one}
use native.Mathlib.Omega.{arith}
use mathlib.Core.Path.{◌≡◌, refl, sym, ap, ◌∙◌, subst}
use mathlib.Core.Bool.{Bool, true, false}
use mathlib.Core.List.{List, [], ◌∷◌, ◌++◌}
use lib.ListN.{length, take, drop, get_or, take-append-drop}
use lib.Seq.{drop-cons}
use Rattle.paper.specs.Bytes.{bytes, all, raw}
use Rattle.paper.specs.Values.{is_digit, value_from, Leads, Number, decimal}
use Rattle.paper.specs.Rules.{Whole}
use Rattle.paper.proofs.Decimal.{digit_bounds, push, value_grows, number_decimal, decimal_number}
use Rattle.value_words.specs.Reading.{Tells}
use Rattle.value_words.proofs.Read.{raw_plain, raw_both}

pub suffix : (w : List ℕ) (i : ℕ) → i < length w → drop i w ≡ get_or w i 0 ∷ drop (i + 1) w
suffix w i h = rw (add-one, drop-cons w i 0)

-- behind digits of the value v, the digits w make the number n
abbrev Rest : ℕ → ℕ → List ℕ → Type 0
Rest n v w = all is_digit w × (n ≡ value_from v w)

starts : (w : List ℕ) → Leads w → (0 < length w) × (get_or w 0 0 ≡ code "0" → ⊥)
starts [] l = absurd l
starts (b ∷ w) l = (omega arith, l)

-- the digits before i have the value v
pub record Upto (w : List ℕ) (n i v : ℕ) : Type 0 where
  pub leads : Leads w
  pub to : Rest n 0 w → Rest n v (drop i w)
  pub of : Rest n v (drop i w) → Rest n 0 w

module _ (w : List ℕ) (n : ℕ) where
  pub not_zero : get_or w 0 0 ≡ code "0" → ¬ Number n w
  not_zero e x = (starts w x.leads).1 e

  module _ (i v : ℕ) (u : Upto w n i v) where
    -- the byte at i
    module _ (h : i < length w) where
      on : Rest n v (drop i w) → Rest n v (get_or w i 0 ∷ drop (i + 1) w)
      on r = subst (Rest n v) (suffix w i h) r

      -- what it is where there is a number
      pub digit : Number n w → (code "0" ≤ get_or w i 0) × (get_or w i 0 ≤ code "9") × (push v (get_or w i 0) ≤ n)
      digit x =
          let r = on (u.to (x.digits, x.counts)) in
          let d = digit_bounds (get_or w i 0) r.0.0 in
          (d.0, d.1, omega (arith, r.1, value_grows (push v (get_or w i 0)) (drop (i + 1) w)))

pub raw_number : (n : ℕ) (v : List ℕ) → Number n v → raw v ≡ v
raw_number n v x = raw_plain is_digit refl v x.digits

-- ---- `1..` and a number

pub raw_whole : (n : ℕ) → 1 ≤ n → (v : List ℕ) → Whole n v → raw v ≡ v
raw_whole n h v e = ap raw e ∙ raw_both (bytes "1..") (decimal n) refl (raw_number n (decimal n) (decimal_number n h)) ∙ sym e

-- by a test of the first three bytes, and of the rest
pub whole_rest : (w : List ℕ) (n : ℕ) → 1 ≤ n → take 3 w ≡ bytes "1.." → (r : Bool) → Tells r (Number n (drop 3 w)) → Tells r (Whole n w)
whole_rest w n p h true x = sym (take-append-drop 3 w) ∙ (λ i. h i ++ number_decimal x i)
whole_rest w n p h false x = λ e. x (subst (Number n) (sym (ap (drop 3) e)) (decimal_number n p))
