-- A list and one element more.
use Prim.Native.Nat.{ℕ, zero, suc}
use mathlib.Core.Path.{◌≡◌, refl, ap, subst}
use mathlib.Core.Logic.{◌⊎◌, inl, inr}
use mathlib.Core.List.{List, [], ◌∷◌, ◌++◌}
use lib.ListN.{length}
use Rattle.paper.specs.Lists.{Nth, ◌∈◌, Count, end, has, lacks}
use Rattle.judge_faults.proofs.Faults.{nth_last, nth_front, nth_split}

module _ {A : Type 0} where
  pub in_last : (l : List A) (x : A) → x ∈ l ++ (x ∷ [])
  in_last l x = (length l, nth_last l x)

  pub in_front : (l : List A) (x y : A) → y ∈ l → y ∈ l ++ (x ∷ [])
  in_front l x y h = (h.0, nth_front l (x ∷ []) h.0 y h.1)

  pub in_split : (l : List A) (x : A) {y : A} → y ∈ l ++ (x ∷ []) → (y ∈ l) ⊎ (y ≡ x)
  in_split l x {y} h = cases (nth_split l x h.0 y h.1)
    where
      cases : Nth l h.0 y ⊎ ((h.0 ≡ length l) × (y ≡ x)) → (y ∈ l) ⊎ (y ≡ x)
      cases (inl a) = inl (h.0, a)
      cases (inr a) = inr a.1

  -- two lists
  pub in_behind : (l k : List A) (y : A) → y ∈ k → y ∈ l ++ k
  in_behind [] k y h = h
  in_behind (x ∷ l) k y h = let u = in_behind l k y h in (suc u.0, u.1)

  pub in_either : (l k : List A) (y : A) → y ∈ l ++ k → (y ∈ l) ⊎ (y ∈ k)
  in_either l k y h = at l h.0 h.1
    where
      at : (l : List A) (i : ℕ) → Nth (l ++ k) i y → (y ∈ l) ⊎ (y ∈ k)
      at [] i n = inr (i, n)
      at (x ∷ l) zero n = inl (0, n)
      at (x ∷ l) (suc i) n = up (at l i n)
        where
          up : (y ∈ l) ⊎ (y ∈ k) → (y ∈ (x ∷ l)) ⊎ (y ∈ k)
          up (inl a) = inl (suc a.0, a.1)
          up (inr a) = inr a

module _ {A : Type 0} {C : A → Type 0} where
  pub count_last : (l : List A) (x : A) {n : ℕ} → C x → Count C (l ++ (x ∷ [])) n → (m : ℕ) × Count C l m × (n ≡ suc m)
  count_last [] x c (has d end) = (0, end, refl)
  count_last [] x c (lacks d r) = absurd (d c)
  count_last (y ∷ l) x c (has d r) = let u = count_last l x c r in (suc u.0, has d u.1, ap suc u.2)
  count_last (y ∷ l) x c (lacks d r) = let u = count_last l x c r in (u.0, lacks d u.1, u.2)

  pub count_front : (l : List A) (x : A) {n : ℕ} → ¬ C x → Count C (l ++ (x ∷ [])) n → Count C l n
  count_front [] x c (has d r) = absurd (c d)
  count_front [] x c (lacks d end) = end
  count_front (y ∷ l) x c (has d r) = has d (count_front l x c r)
  count_front (y ∷ l) x c (lacks d r) = lacks d (count_front l x c r)

  pub none_of : {l : List A} {x : A} → Count C l 0 → x ∈ l → ¬ C x
  none_of {l} {x} r h c = at r h.0 h.1
    where
      at : {l : List A} → Count C l 0 → (i : ℕ) → Nth l i x → ⊥
      at end i n = n
      at (lacks d r) zero n = d (subst C n c)
      at (lacks d r) (suc i) n = at r i n
