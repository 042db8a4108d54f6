-- The first fault of a part, from the first faults of its own parts.
use Prim.Native.Nat.{ℕ, zero, suc}
use native.Mathlib.Omega.{arith}
use mathlib.Core.Path.{◌≡◌, refl, sym, ap, ◌∙◌, subst}
use mathlib.Core.Bool.{Bool, true, false}
use mathlib.Core.Logic.{◌⊎◌, inl, inr}
use mathlib.Core.List.{List, [], ◌∷◌, ◌++◌}
use lib.ListN.{length}
use Rattle.paper.specs.Lists.{Nth}
use Rattle.paper.specs.Rules.{Before}
use Rattle.std.specs.Prelude.{None, Some}
use Rattle.judge_faults.proofs.Parts.{◌or◌, least_or, least_as}
use Rattle.value_words.specs.Reading.{Tells}
use Rattle.judge_faults.specs.Sets.{Fault, fault_at, Earlier, Faults, Firsts, Bad, InSome, unless_of}

pub firsts_or : (S T : Faults) {a b r : Fault} → Firsts S a → Firsts T b → Earlier a b r → Firsts (◌or◌ S T) r
firsts_or S T {a} {b} {r} f g e = record { is = least_or S T a b r f.is g.is e }

pub firsts_as : (S T : Faults) → ((n p : ℕ) → S n p → T n p) → ((n p : ℕ) → T n p → S n p) → {r : Fault} → Firsts S r → Firsts T r
firsts_as S T to of {r} f = record { is = least_as S T to of r f.is }

-- nothing is broken in a set that is empty
pub firsts_none : (S : Faults) → ((n p : ℕ) → ¬ S n p) → Firsts S None
firsts_none S h = record { is = h }

-- a single fault
pub earlier_clean : (a : Fault) → Earlier a None a
earlier_clean None = refl
earlier_clean (Some x) = refl

pub firsts_one : (m q : ℕ) (A : Type 0) → ¬ A → Firsts (Bad m q A) (fault_at m q)
firsts_one m q A h =
    record {
      is =
          record {
            broken = (refl, refl, h);
            least = λ k l x. inr (sym x.1, omega (arith, x.0));
          };
    }

pub firsts_unless : (ok : Bool) (m p : ℕ) {A : Type 0} {r : Fault} → Tells ok A → r ≡ unless_of ok m p → Firsts (Bad m p A) r
firsts_unless true m p t e = subst (Firsts (Bad m p _)) (sym e) (firsts_none (Bad m p _) (λ n q x. x.2 t))
firsts_unless false m p {A} t e = subst (Firsts (Bad m p A)) (sym e) (firsts_one m p A t)

-- ---- over a list

-- an element of a list and one element more
module _ {A : Type 0} where
  pub nth_last : (l : List A) (x : A) → Nth (l ++ (x ∷ [])) (length l) x
  nth_last [] x = refl
  nth_last (y ∷ l) x = nth_last l x

  pub nth_front : (l k : List A) (i : ℕ) (x : A) → Nth l i x → Nth (l ++ k) i x
  nth_front [] k i x h = absurd h
  nth_front (y ∷ l) k zero x h = h
  nth_front (y ∷ l) k (suc i) x h = nth_front l k i x h

  pub nth_split : (l : List A) (y : A) (i : ℕ) (x : A) → Nth (l ++ (y ∷ [])) i x → Nth l i x ⊎ ((i ≡ length l) × (x ≡ y))
  nth_split [] y zero x h = inr (refl, h)
  nth_split [] y (suc i) x h = absurd h
  nth_split (z ∷ l) y zero x h = inl h
  nth_split (z ∷ l) y (suc i) x h = up (nth_split l y i x h)
    where
      up : Nth l i x ⊎ ((i ≡ length l) × (x ≡ y)) → Nth (z ∷ l) (suc i) x ⊎ ((suc i ≡ suc (length l)) × (x ≡ y))
      up (inl a) = inl a
      up (inr a) = inr (ap suc a.0, a.1)

module _ {A : Type 0} (B : ℕ → A → Faults) where
  pub some_none : Firsts (InSome B []) None
  some_none = firsts_none (InSome B []) (λ n p x. x.2.2)

  module _ (l : List A) (y : A) where
    to : (n p : ℕ) → ◌or◌ (InSome B l) (B (suc (length l)) y) n p → InSome B (l ++ (y ∷ [])) n p
    to n p (inl x) = (x.0, x.1, (x.2.0, x.2.1, nth_front l (y ∷ []) x.2.0 x.1 x.2.2), x.3)
    to n p (inr x) = (suc (length l), y, (length l, refl, nth_last l y), x)

    of : (n p : ℕ) → InSome B (l ++ (y ∷ [])) n p → ◌or◌ (InSome B l) (B (suc (length l)) y) n p
    of n p x = cases (nth_split l y x.2.0 x.1 x.2.2)
      where
        cases : Nth l x.2.0 x.1 ⊎ ((x.2.0 ≡ length l) × (x.1 ≡ y)) → ◌or◌ (InSome B l) (B (suc (length l)) y) n p
        cases (inl h) = inl (x.0, x.1, (x.2.0, x.2.1, h), x.3)
        cases (inr h) = inr (subst (λ (k : ℕ). B k y n p) (x.2.1 ∙ ap suc h.0) (subst (λ (z : A). B x.0 z n p) h.1 x.3))

    -- one element more
    pub some_more : {a b r : Fault} → Firsts (InSome B l) a → Firsts (B (suc (length l)) y) b → Earlier a b r → Firsts (InSome B (l ++ (y ∷ []))) r
    some_more f g e = firsts_as (◌or◌ (InSome B l) (B (suc (length l)) y)) (InSome B (l ++ (y ∷ []))) to of (firsts_or (InSome B l) (B (suc (length l)) y) f g e)

    -- one whose faults come later, whatever they are
    pub some_later : {n p : ℕ} → Firsts (InSome B l) (fault_at n p) → ((m q : ℕ) → B (suc (length l)) y m q → Before n p m q) → Firsts (InSome B (l ++ (y ∷ []))) (fault_at n p)
    some_later {n} {p} f h =
        firsts_as (◌or◌ (InSome B l) (B (suc (length l)) y)) (InSome B (l ++ (y ∷ []))) to of (record { is = record { broken = inl f.is.broken; least = least } })
      where
        least : (m q : ℕ) → ◌or◌ (InSome B l) (B (suc (length l)) y) m q → Before n p m q
        least m q (inl x) = f.is.least m q x
        least m q (inr x) = h m q x
