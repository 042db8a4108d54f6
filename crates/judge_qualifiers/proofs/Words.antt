-- Rules 41 and 42: how the names of a list of qualifiers stand, after one qualifier more.
use Prim.Native.Nat.{ℕ, suc}
use native.Mathlib.Omega.{arith}
use mathlib.Core.Path.{◌≡◌, refl, sym, ◌∙◌, subst}
use mathlib.Core.Bool.{Bool, true, false, ◌||◌}
use mathlib.Core.Logic.{◌⊎◌, inl, inr}
use mathlib.Core.List.{List, [], ◌∷◌, ◌++◌}
use lib.ListN.{length}
use lib.Dec.{eqb}
use borrow.Author.Tests.{eqb-true, eqb-false}
use Rattle.paper.specs.Lists.{◌∈◌}
use Rattle.paper.specs.Tree.{Qualifier}
use Rattle.value_words.specs.Reading.{Tells}
use Rattle.std.specs.Prelude.{None}
use Rattle.judge_faults.specs.Sets.{Fault, fault_at, Earlier, Firsts, InSome}
use Rattle.judge_faults.proofs.Faults.{earlier_clean, firsts_none, some_none, some_more}
use Rattle.judge_qualifiers.specs.Qualifiers.{Foreign, HasStanding, WordedBy, WithWord}
use Rattle.judge_qualifiers.specs.declared.Worded.{Worded}
use Rattle.judge_qualifiers.proofs.Lists.{in_last, in_front, in_split}

pub words_none : (st : List ℕ → ℕ) → WordedBy st (record { foreign = None; first = false; second = false }) []
words_none st = record { foreign = some_none (Foreign st); first = λ x. x.1.1; second = λ x. x.1.1 }

module _ (st : List ℕ → ℕ) (l : List (Qualifier ℕ)) (q : Qualifier ℕ) where
  -- a name that stands otherwise
  has_other : {how : ℕ} (b : Bool) → ¬ (st q.name.read ≡ how) → Tells b (HasStanding st how l) → Tells b (HasStanding st how (l ++ (q ∷ [])))
  has_other true n t = (t.0, in_front l q t.0 t.1, t.2)
  has_other {how} false n t = λ x. go x.0 (in_split l q x.1) x.2
    where
      go : (y : Qualifier ℕ) → (y ∈ l) ⊎ (y ≡ q) → st y.name.read ≡ how → ⊥
      go y (inl m) e = t (y, m, e)
      go y (inr i) e = n (subst (λ (z : Qualifier ℕ). st z.name.read ≡ how) i e)

  -- a name that may stand so
  has_more : (n how : ℕ) (b : Bool) → st q.name.read ≡ how → Tells b (HasStanding st n l) → Tells (b || eqb how n) (HasStanding st n (l ++ (q ∷ [])))
  has_more n how true e t = (t.0, in_front l q t.0 t.1, t.2)
  has_more n how false e t = go (eqb how n) refl
    where
      go : (b : Bool) → eqb how n ≡ b → Tells b (HasStanding st n (l ++ (q ∷ [])))
      go true p = (q, in_last l q, e ∙ eqb-true how n p)
      go false p = has_other false (λ y. eqb-false how n p (sym e ∙ y)) t

  foreign_other : {a : Fault} → ¬ (st q.name.read ≡ 0) → Firsts (InSome (Foreign st) l) a → Firsts (InSome (Foreign st) (l ++ (q ∷ []))) a
  foreign_other {a} n f = some_more (Foreign st) l q f (firsts_none (Foreign st (suc (length l)) q) (λ m p b. n b.2)) (earlier_clean a)

  foreign_this : {a r : Fault} {place : ℕ} → st q.name.read ≡ 0 → place ≡ q.name.place → Firsts (InSome (Foreign st) l) a → Earlier a (fault_at 41 place) r
      → Firsts (InSome (Foreign st) (l ++ (q ∷ []))) r
  foreign_this z e f g =
      some_more (Foreign st) l q f (record { is = record { broken = (refl, e, z); least = λ m p b. inr (e ∙ sym b.1, omega (arith, b.0)) } }) g

module _ {how place : ℕ} {a : Worded} where
  pub word_foreign : {r : Fault} → how ≡ 0 → Earlier a.foreign (fault_at 41 place) r → WithWord how place a (record { foreign = r; first = a.first; second = a.second })
  word_foreign h g =
      record {
        says =
            λ st q e p l w.
            let z = e ∙ h in
            record {
              foreign = foreign_this st l q z p w.foreign g;
              first = has_other st l q a.first (λ y. omega (arith, y, z)) w.first;
              second = has_other st l q a.second (λ y. omega (arith, y, z)) w.second;
            };
      }

  -- a name that is allowed
  pub word_passed : ¬ (how ≡ 0) → WithWord how place a (record { foreign = a.foreign; first = a.first || eqb how 2; second = a.second || eqb how 3 })
  word_passed f =
      record {
        says =
            λ st q e p l w.
            record {
              foreign = foreign_other st l q (λ y. f (sym e ∙ y)) w.foreign;
              first = has_more st l q 2 how a.first e w.first;
              second = has_more st l q 3 how a.second e w.second;
            };
      }
