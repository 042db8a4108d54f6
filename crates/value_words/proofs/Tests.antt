-- From tests of the code to what they tell.
use Prim.Native.Nat.{ℕ, zero, suc, ◌+◌, ◌≤◌, ◌<◌}
use native.Mathlib.Omega.{arith}
use mathlib.Core.Path.{◌≡◌, refl, sym, ap, ◌∙◌, subst}
use mathlib.Core.Bool.{Bool, true, false, true≢false}
use mathlib.Core.List.{List, [], ◌∷◌}
use lib.ListN.{length, get_or}
use lib.Dec.{leb}
use borrow.Author.Tests.{leb-true, leb-false}
use Rattle.paper.specs.Bytes.{all}
use Rattle.paper.proofs.Tables.{listed}
use Rattle.value_words.specs.Reading.{Tells}

-- what a flag tells, from what each of its values tells
pub tells : (r : Bool) {A : Type 0} → (r ≡ true → A) → (r ≡ false → ¬ A) → Tells r A
tells true f g = f refl
tells false f g = g refl

-- a flag that is another tells the same
pub told : (A : Type 0) {b c : Bool} → b ≡ c → Tells b A → Tells c A
told A h t = subst (λ (d : Bool). Tells d A) h t

pub tells_true : (r : Bool) {A : Type 0} → r ≡ true → Tells r A → A
tells_true true e t = t
tells_true false e t = absurd (true≢false (sym e))

pub tells_false : (r : Bool) {A : Type 0} → r ≡ false → Tells r A → ¬ A
tells_false true e t = absurd (true≢false e)
tells_false false e t = t

pub tells_le : (a b : ℕ) → Tells (leb a b) (a ≤ b)
tells_le a b = tells (leb a b) (leb-true a b) (λ e h. omega (arith, h, leb-false a b e))

-- a list is its elements
spread_from : (w : List ℕ) (f : ℕ → ℕ) (i : ℕ) → ((j : ℕ) → get_or w j 0 ≡ f (i + j)) → w ≡ listed f i (length w)
spread_from [] f i h = refl
spread_from (b ∷ w) f i h =
    let e : b ≡ f i = h 0 ∙ ap f (omega arith) in
    let t = spread_from w f (suc i) (λ j. h (suc j) ∙ ap f (omega arith)) in
    λ k. e k ∷ t k

pub spread : (n : ℕ) (w : List ℕ) → length w ≡ n → w ≡ listed (λ (i : ℕ). get_or w i 0) 0 n
spread n w e = spread_from w (λ (i : ℕ). get_or w i 0) 0 (λ j. ap (λ (k : ℕ). get_or w k 0) (omega arith)) ∙ ap (listed (λ (i : ℕ). get_or w i 0) 0) e

pub all_at : (f : ℕ → Bool) (w : List ℕ) (i : ℕ) → i < length w → all f w → f (get_or w i 0) ≡ true
all_at f [] i h a = absurd (omega arith)
all_at f (b ∷ w) zero h a = a.0
all_at f (b ∷ w) (suc i) h a = all_at f w i (omega arith) a.1
