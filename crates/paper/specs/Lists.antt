-- Lists: an element by its number, how many have a property, and what a list of lists holds.
use Rattle.std.specs.Prelude.{ℕ, zero, suc, ◌≡◌, List, [], ◌∷◌, ◌++◌}
use Rattle.std.proofs.Math.Option.{Option, none, some}

-- x is element i of a list, from 0
abbrev pub Nth : {A : Type 0} → List A → ℕ → A → Type 0
Nth [] i x = ⊥
Nth (y ∷ l) zero x = x ≡ y
Nth (y ∷ l) (suc i) x = Nth l i x

infix 40 ◌∈◌
-- x is an element of a list
abbrev pub ◌∈◌ : {A : Type 0} → A → List A → Type 0
◌∈◌ x l = (i : ℕ) × Nth l i x

-- x is element number k: "All numbers count from 1."
abbrev pub Numbered : {A : Type 0} → List A → ℕ → A → Type 0
Numbered l k x = (i : ℕ) × (k ≡ suc i) × Nth l i x

-- n elements of a list have the property
pub data Count {A : Type 0} (Property : A → Type 0) : List A → ℕ → Type 0 where
  end : Count Property [] 0
  has : {a : A} {l : List A} {n : ℕ} → Property a → Count Property l n → Count Property (a ∷ l) (suc n)
  lacks : {a : A} {l : List A} {n : ℕ} → ¬ Property a → Count Property l n → Count Property (a ∷ l) n

-- all that f gives for the elements, one after another
abbrev pub gather : {A B : Type 0} → (A → List B) → List A → List B
gather f [] = []
gather f (a ∷ l) = f a ++ gather f l

-- what may be missing, as a list
abbrev pub present : {A : Type 0} → Option A → List A
present none = []
present (some a) = a ∷ []
