-- Right values, one letter after another.
use Prim.Native.Nat.{ℕ}
use Prim.Native.Char.{code}
use mathlib.Core.Path.{◌≡◌, sym, ap, ◌∙◌}
use mathlib.Core.Bool.{true≢false}
use mathlib.Core.List.{List, [], ◌∷◌, ◌++◌, cons≢nil, append_cancel_left}
use Rattle.paper.specs.Translation.{drop_stop}
use Rattle.protein_codons.proofs.Stops.{keep_letter, Front, keep_front, clear_front, stop_last, stop_inside}
use Rattle.protein_compare.specs.Comparing.{RightValue}

module _ {c : ℕ} (n : c ≡ code "*" → ⊥) where
  pub right_head : {l v : List ℕ} {b : ℕ} → RightValue (c ∷ l) (b ∷ v) → b ≡ c
  right_head {l} {v} {b} h = let e : b ∷ v ≡ c ∷ drop_stop l = h.same ∙ keep_letter n l in cc

  pub right_more : {l : List ℕ} → RightValue (c ∷ l) [] → ⊥
  right_more {l} h = cons≢nil (sym (h.same ∙ keep_letter n l))

-- letters of which none is a stop
module _ {d : List ℕ} {n : ℕ} (f : Front d n) where
  pub right_forth : {l v : List ℕ} → RightValue (d ++ l) (d ++ v) → RightValue l v
  right_forth {l} {v} h =
      record { clear = sym (clear_front f l) ∙ h.clear; same = append_cancel_left d v (drop_stop l) (h.same ∙ keep_front f l) }

  pub right_back : {l v : List ℕ} → RightValue l v → RightValue (d ++ l) (d ++ v)
  right_back {l} {v} h = record { clear = clear_front f l ∙ h.clear; same = ap (λ (z : List ℕ). d ++ z) h.same ∙ sym (keep_front f l) }

module _ {c : ℕ} (e : c ≡ code "*") where
  -- a value that is right ends before a stop
  pub right_stop : (l : List ℕ) {v : List ℕ} → RightValue (c ∷ l) v → v ≡ []
  right_stop [] h = h.same ∙ stop_last e
  right_stop (y ∷ l) h = absurd (true≢false (sym (stop_inside e y l) ∙ h.clear))
