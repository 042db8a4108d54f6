-- Tests as numbers, joined.
use Prim.Native.Nat.{ℕ, suc, ◌<◌}
use native.Mathlib.Omega.{arith}
use mathlib.Core.Path.{◌≡◌, refl, sym, ◌∙◌}
use mathlib.Core.Bool.{Bool, true, false, true≢false}
use mathlib.Core.Logic.{◌⊎◌, inl, inr}
use mathlib.Core.List.{List, [], ◌∷◌}
use lib.Bits.{bit_or}
use lib.Dec.{eqb}
use lib.ListN.{length, get_or}
use borrow.Author.Tests.{eq-eqb, eqb-true}
use Rattle.read_bytes.specs.Numbers.{flag}

pub flag_none : (p : Bool) → flag p ≡ 0 → p ≡ false
flag_none true h = absurd (omega arith)
flag_none false h = refl

module _ (b : ℕ) where
  -- a, and the tests whether b is each of these
  abbrev pub joined : ℕ → List ℕ → ℕ
  joined a [] = a
  joined a (x ∷ l) = joined (bit_or a (flag (eqb b x))) l

  abbrev OneOf : List ℕ → Type 0
  OneOf l = (k : ℕ) × (k < length l) × (b ≡ get_or l k 0)

  some_of : (a : ℕ) (l : List ℕ) → ¬ (joined a l ≡ 0) → ¬ (a ≡ 0) ⊎ OneOf l
  some_of a [] h = inl h
  some_of a (x ∷ l) h = by (eqb b x) refl (some_of (bit_or a (flag (eqb b x))) l h)
    where
      by : (t : Bool) → eqb b x ≡ t → ¬ (bit_or a (flag (eqb b x)) ≡ 0) ⊎ OneOf l → ¬ (a ≡ 0) ⊎ OneOf (x ∷ l)
      by true e y = inr (0, omega arith, eqb-true b x e)
      by false e (inl n) = inl (λ z. n (rw (z, e) refl))
      by false e (inr (k, h, q)) = inr (suc k, omega (arith, h), q)

  -- where not all of its tests are 0 it is one of these
  pub one_of : (l : List ℕ) {n : ℕ} → n ≡ flag (eqb (joined 0 l) 0) → n ≡ 0 → OneOf l
  one_of l e z = by (some_of 0 l (λ h. true≢false (sym (eq-eqb (joined 0 l) 0 h) ∙ flag_none _ (sym e ∙ z))))
    where
      by : ¬ (◌≡◌ {A = ℕ} 0 0) ⊎ OneOf l → OneOf l
      by (inl n) = absurd (n refl)
      by (inr o) = o
