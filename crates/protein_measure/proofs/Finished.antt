-- Where a reading ends.
use Prim.Native.Nat.{ℕ}
use Prim.Native.Char.{code}
use mathlib.Core.Path.{◌≡◌, refl, ap, ◌∙◌, subst}
use mathlib.Core.Bool.{Bool, true, false}
use mathlib.Core.List.{List, [], ◌∷◌}
use Rattle.paper.specs.Translation.{Code, letters, drop_stop, has_stop_inside}
use Rattle.protein_codons.specs.declared.Reading.{Reading}
use Rattle.protein_codons.specs.Reading.{TextLeft, LetterIs, Ends}
use Rattle.protein_codons.proofs.Stops.{stop_last, stop_last_clear, stop_inside}

-- no letter of the translation is left
pub record Finished (gc : Code) (s loc : List ℕ) (L : ℕ) (x : Reading) : Type 0 where
  pub is : (rest : List ℕ) → TextLeft s loc L x rest → (has_stop_inside (letters gc rest) ≡ false) × (drop_stop (letters gc rest) ≡ [])

module _ {gc : Code} {s loc : List ℕ} {L : ℕ} {x : Reading} where
  pub finished_done : ((text : List ℕ) → TextLeft s loc L x text → letters gc text ≡ []) → Finished gc s loc L x
  finished_done g = record { is = λ rest h. rw (g rest h) (refl, refl) }

  module _ {c : ℕ} {y : Reading} (g : LetterIs gc s loc L x c y) (e : c ≡ code "*") {r : Bool} (q : Ends gc s loc L y r) where
    pub finished_last : r ≡ true → Finished gc s loc L x
    finished_last t =
        record {
          is = λ rest h.
              let u = g.one.gives rest h in
              let z = (subst (Ends gc s loc L y) t q).says u.others u.left in
              rw (u.is, z) (stop_last_clear e, stop_last e);
        }

    pub stops_inside : r ≡ false → (rest : List ℕ) → TextLeft s loc L x rest → has_stop_inside (letters gc rest) ≡ true
    stops_inside t rest h =
        let u = g.one.gives rest h in
        let z = (subst (Ends gc s loc L y) t q).says u.others u.left in
        ap has_stop_inside (u.is ∙ ap (λ (l : List ℕ). c ∷ l) z.2) ∙ stop_inside e z.0 z.1
