-- Soundness of readers, by the model's words: what is read, if anything is, has a property.
use Prim.Native.Nat.{ℕ}
use mathlib.Core.Path.{◌≡◌, refl, ap, subst}
use mathlib.Core.Bool.{Bool, true, false, cond}
use mathlib.Core.Option.{Option, none, some, some-injective, none-ne-some}
use mathlib.Core.List.{List, [], ◌∷◌, ◌++◌}
use lib.Dec.{eqb}
use borrow.Author.Tests.{eqb-true}
use Rattle.paper.proofs.Locate.Model.{Got, then, strip, behind}

pub byte_is : {a b : ℕ} {w : List ℕ} → eqb b a ≡ true → b ∷ w ≡ a ∷ w
byte_is {a} {b} {w} e = ap (λ (c : ℕ). c ∷ w) (eqb-true b a e)

pub strip_sound : (x w z : List ℕ) → strip x w ≡ some z → w ≡ x ++ z
strip_sound [] w z e = some-injective w z e
strip_sound (a ∷ x) [] z e = absurd (none-ne-some z e)
strip_sound (a ∷ x) (b ∷ w) z e = go (eqb b a) refl e (strip_sound x w z)
  where
    go : (t : Bool) → eqb b a ≡ t → cond t (strip x w) none ≡ some z → (strip x w ≡ some z → w ≡ x ++ z) → b ∷ w ≡ a ∷ (x ++ z)
    go true h e ih = λ i. eqb-true b a h i ∷ ih e i
    go false h e ih = absurd (none-ne-some z e)

pub record Gives {A : Type 0} (g : Got A) (P : A → List ℕ → Type 0) : Type 0 where
  pub holds : (a : A) (r : List ℕ) → g ≡ some (a, r) → P a r

module _ {A : Type 0} {P : A → List ℕ → Type 0} where
  pub gives_none : Gives none P
  gives_none = record { holds = λ a r e. absurd (none-ne-some (a, r) e) }

  pub gives_some : {a : A} {r : List ℕ} → P a r → Gives (some (a, r)) P
  gives_some {a} {r} h =
      record { holds = λ b z e. subst (λ (p : A × List ℕ). P p.0 p.1) (some-injective (a, r) (b, z) e) h }

  pub gives_cond : (t : Bool) {x y : Got A} → (t ≡ true → Gives x P) → (t ≡ false → Gives y P) → Gives (cond t x y) P
  gives_cond true f g = f refl
  gives_cond false f g = g refl

  pub gives_then : {B : Type 0} {g : Got B} {f : B → List ℕ → Got A} {Q : B → List ℕ → Type 0}
      → Gives g Q → ((b : B) (z : List ℕ) → Q b z → Gives (f b z) P) → Gives (then g f) P
  gives_then {B} {g} {f} {Q} h k = go g refl
    where
      go : (x : Got B) → g ≡ x → Gives (then x f) P
      go none e = gives_none
      go (some p) e = k p.0 p.1 (h.holds p.0 p.1 e)

  pub gives_behind : (x w : List ℕ) {f : List ℕ → Got A} → ((z : List ℕ) → w ≡ x ++ z → Gives (f z) P) → Gives (behind (strip x w) f) P
  gives_behind x w {f} k = go (strip x w) refl
    where
      go : (o : Option (List ℕ)) → strip x w ≡ o → Gives (behind o f) P
      go none e = gives_none
      go (some z) e = k z (strip_sound x w z e)
