-- The model at an operator's word, and where none stands.
use Prim.Native.Nat.{ℕ}
use Prim.Native.Char.{code}
use mathlib.Core.Path.{◌≡◌, refl, sym, ap, ◌∙◌}
use mathlib.Core.Bool.{Bool, true, false, cond}
use mathlib.Core.Option.{Option, none, some}
use mathlib.Core.List.{List, [], ◌∷◌, ◌++◌}
use lib.Dec.{eqb}
use borrow.Author.Tests.{eqb-true}
use Rattle.paper.specs.Bytes.{bytes}
use Rattle.paper.specs.Locations.{Member, Operator, join, order, operator_name, Location}
use Rattle.paper.proofs.Locate.Model.{Got, then, strip, behind, leaf, close, step, gather, within}
use Rattle.paper.proofs.Locate.Gives.{strip_sound}
use Rattle.location_judge.proofs.Stand.{Lacks}
use Rattle.location_judge.proofs.Shapes.{unlike}

strip_none : (x w : List ℕ) → Lacks x w → strip x w ≡ none
strip_none x w h = go (strip x w) refl
  where
    go : (o : Option (List ℕ)) → strip x w ≡ o → strip x w ≡ none
    go none e = e
    go (some z) e = absurd (h z (strip_sound x w z e))

-- a word that lacks is not read, whether or not it may stand
word_none : (t : Bool) (x w : List ℕ) (f : List ℕ → Got Location) → Lacks x w → cond t (behind (strip x w) f) none ≡ none
word_none true x w f h = rw (strip_none x w h)
word_none false x w f h = refl

chosen : {t : Bool} (x y : Got Location) → t ≡ true → cond t x y ≡ x
chosen {t} x y e = ap (λ (b : Bool). cond b x y) e

passed : {t : Bool} (x y : Got Location) → t ≡ false → cond t x y ≡ y
passed {t} x y e = ap (λ (b : Bool). cond b x y) e

module _ (fc fl : List ℕ → Got Location) (c l : Bool) where
  pub within_else : (w : List ℕ) → Lacks (bytes "complement(") w → ((o : Operator) → Lacks (bytes (operator_name o)) w) → within fc fl c l w ≡ leaf l w
  within_else [] h k = refl
  within_else (b ∷ w) h k = go (eqb b (code "c")) refl (eqb b (code "j")) refl (eqb b (code "o")) refl
    where
      -- no segment or site starts with a letter
      letter : (a : ℕ) → leaf l (a ∷ w) ≡ none → eqb b a ≡ true → leaf l (b ∷ w) ≡ none
      letter a e q = rw (eqb-true b a q) e

      go : (p : Bool) → eqb b (code "c") ≡ p → (q : Bool) → eqb b (code "j") ≡ q → (r : Bool) → eqb b (code "o") ≡ r
          → within fc fl c l (b ∷ w) ≡ leaf l (b ∷ w)
      go true e _ _ _ _ = chosen _ _ e ∙ word_none c (bytes "complement(") (b ∷ w) (λ z. then (fc z) close) h ∙ sym (letter (code "c") refl e)
      go false e true f _ _ =
          passed _ _ e ∙ chosen _ _ f ∙ word_none l (bytes (operator_name join)) (b ∷ w) (gather fl join) (k join) ∙ sym (letter (code "j") refl f)
      go false e false f true g =
          passed _ _ e ∙ passed _ _ f ∙ chosen _ _ g ∙ word_none l (bytes (operator_name order)) (b ∷ w) (gather fl order) (k order)
          ∙ sym (letter (code "o") refl g)
      go false e false f false g = passed _ _ e ∙ passed _ _ f ∙ passed _ _ g

  pub within_list : (o : Operator) (z : List ℕ) → within fc fl c l (bytes (operator_name o) ++ z) ≡ cond l (gather fl o z) none
  within_list join z = refl
  within_list order z = refl

pub close_else : (t : Location) (w : List ℕ) → Lacks (bytes ")") w → close t w ≡ none
close_else t [] h = refl
close_else t (b ∷ w) h = rw (unlike (code ")") b w h)

pub step_else : (f : List ℕ → Got (List Member)) (t : Location) (w : List ℕ) → Lacks (bytes ")") w → Lacks (bytes ",") w → step f t w ≡ none
step_else f t [] h k = refl
step_else f t (b ∷ w) h k = rw (unlike (code ",") b w k, unlike (code ")") b w h)
