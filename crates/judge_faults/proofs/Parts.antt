-- The first broken rule of two parts together is the earlier of their firsts.
use Prim.Native.Nat.{ℕ}
use mathlib.Core.Path.{sym, subst}
use mathlib.Core.Logic.{◌⊎◌, inl, inr}
use Rattle.paper.proofs.Firsts.{before_trans}
use Rattle.std.specs.Prelude.{None, Some}
use Rattle.judge_faults.specs.Sets.{Fault, Least, Earlier}

-- what is broken in one part or in the other
abbrev pub ◌or◌ : {P : Type 0} → (ℕ → P → Type 0) → (ℕ → P → Type 0) → ℕ → P → Type 0
◌or◌ S T n p = S n p ⊎ T n p

module _ (S T : ℕ → ℕ → Type 0) where
  module _ {A : Type 0} {n p : ℕ} where
    either : (S n p → A) → (T n p → A) → S n p ⊎ T n p → A
    either f g (inl x) = f x
    either f g (inr x) = g x

  -- the first of two parts together is the earlier of their firsts
  pub least_or : (a b r : Fault) → Least S a → Least T b → Earlier a b r → Least (◌or◌ S T) r
  least_or None None r f g e = subst (Least (◌or◌ S T)) (sym e) (λ n p x. either (f n p) (g n p) x)
  least_or None (Some y) r f g e =
      subst (Least (◌or◌ S T)) (sym e)
      (record { broken = inr g.broken; least = λ k l z. either (λ h. absurd (f k l h)) (g.least k l) z })
  least_or (Some x) None r f g e =
      subst (Least (◌or◌ S T)) (sym e)
      (record { broken = inl f.broken; least = λ k l z. either (f.least k l) (λ h. absurd (g k l h)) z })
  least_or (Some x) (Some y) r f g (inl e) =
      subst (Least (◌or◌ S T)) (sym e.0)
      (record {
        broken = inl f.broken;
        least = λ k l z. either (f.least k l) (λ h. before_trans x.rule x.place y.rule y.place k l e.1 (g.least k l h)) z;
      })
  least_or (Some x) (Some y) r f g (inr e) =
      subst (Least (◌or◌ S T)) (sym e.0)
      (record {
        broken = inr g.broken;
        least = λ k l z. either (λ h. before_trans y.rule y.place x.rule x.place k l e.1 (f.least k l h)) (g.least k l) z;
      })

  -- the first of the same set in other words
  pub least_as : ((n p : ℕ) → S n p → T n p) → ((n p : ℕ) → T n p → S n p) → (f : Fault) → Least S f → Least T f
  least_as to of None h = λ n p x. h n p (of n p x)
  least_as to of (Some x) h = record { broken = to x.rule x.place h.broken; least = λ m q x. h.least m q (of m q x) }
