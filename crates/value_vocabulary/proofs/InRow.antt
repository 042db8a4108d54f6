-- How a name stands in a row, and what that tells of the rules.
use Prim.Native.Nat.{ℕ, zero, suc, ◌+◌, ◌≤◌, ◌<◌}
use native.Mathlib.Omega.{arith}
use mathlib.Core.Path.{◌≡◌, refl, sym, ap, ◌∙◌, subst}
use mathlib.Core.Bool.{Bool, true, false, true≢false, ◌&&◌, not, cond, and-eq-true_iff}
use mathlib.Core.Logic.{◌⊎◌, inl, inr}
use mathlib.Core.List.{List, [], ◌∷◌}
use Rattle.paper.specs.Bytes.{same}
use Rattle.paper.specs.Lists.{◌∈◌}
use Rattle.paper.specs.Vocabulary.{Row, nucleotide_rows, amino_rows, is_one_of}
use Rattle.paper.specs.Rules.{Kind, dna, rna, aa, vocabulary, Allows}
use Rattle.paper.proofs.Texts.{same_is, same_self}
use Rattle.paper.proofs.Words.{one_in, in_one}
use Rattle.value_vocabulary.specs.Tables.{standing_in, standing_of, Few}

-- a required name, or the name stands otherwise
in_required : (n : ℕ) (l : List (List ℕ)) (o : ℕ) (w : List ℕ) → (w ∈ l) ⊎ (standing_in n l o w ≡ o)
in_required n [] o w = inr refl
in_required n (v ∷ l) o w = go (same w v) refl (in_required (n + 1) l o w)
  where
    go : (b : Bool) → same w v ≡ b → (w ∈ l) ⊎ (standing_in (n + 1) l o w ≡ o) → (w ∈ (v ∷ l)) ⊎ (cond b n (standing_in (n + 1) l o w) ≡ o)
    go true p x = inl (0, same_is w v p)
    go false p (inl m) = inl (suc m.0, m.1)
    go false p (inr e) = inr e

-- and no other stands below n
required_stands : (n : ℕ) (l : List (List ℕ)) (o : ℕ) (w : List ℕ) → w ∈ l → n ≤ standing_in n l o w
required_stands n [] o w m = absurd m.1
required_stands n (v ∷ l) o w m = go (same w v) refl m (λ k. required_stands (n + 1) l o w k)
  where
    go : (b : Bool) → same w v ≡ b → w ∈ (v ∷ l) → (w ∈ l → n + 1 ≤ standing_in (n + 1) l o w) → n ≤ cond b n (standing_in (n + 1) l o w)
    go true p x f = omega arith
    go false p (zero, e) f = absurd (true≢false (sym (ap (same w) (sym e) ∙ same_self w) ∙ p))
    go false p (suc i, e) f = omega (arith, f (i, e))

module _ (r : Row) (w : List ℕ) where
  -- a name that stands at 0 isn't allowed
  pub standing_none : standing_of r w ≡ 0 → ¬ Allows r w
  standing_none e (inl m) = let h = required_stands 2 r.required (cond (is_one_of r.optional w) 1 0) w m in omega (arith, e, h)
  standing_none e (inr m) = go (in_required 2 r.required (cond (is_one_of r.optional w) 1 0) w)
    where
      go : (w ∈ r.required) ⊎ (standing_of r w ≡ cond (is_one_of r.optional w) 1 0) → ⊥
      go (inl n) = let h = required_stands 2 r.required (cond (is_one_of r.optional w) 1 0) w n in omega (arith, e, h)
      go (inr h) = let z = ap (λ (b : Bool). cond {A = ℕ} b 1 0) (in_one r.optional w m) in omega (arith, e, h, z)

  -- any other is
  pub standing_some : ¬ (standing_of r w ≡ 0) → Allows r w
  standing_some n = go (in_required 2 r.required (cond (is_one_of r.optional w) 1 0) w)
    where
      by : (b : Bool) → is_one_of r.optional w ≡ b → standing_of r w ≡ cond b 1 0 → Allows r w
      by true p h = inr (one_in r.optional w p)
      by false p h = absurd (n h)

      go : (w ∈ r.required) ⊎ (standing_of r w ≡ cond (is_one_of r.optional w) 1 0) → Allows r w
      go (inl m) = inl m
      go (inr h) = by (is_one_of r.optional w) refl h

-- ---- required names

abbrev pub few_told : List (List ℕ) → Bool
few_told [] = true
few_told (v ∷ []) = true
few_told (v ∷ w ∷ []) = not (same w v)
few_told (v ∷ w ∷ x ∷ l) = false

few_told_lem : (l : List (List ℕ)) → few_told l ≡ true → Few l
few_told_lem [] e = tt
few_told_lem (v ∷ []) e = tt
few_told_lem (v ∷ w ∷ []) e = go (same w v) refl e
  where
    go : (b : Bool) → same w v ≡ b → not b ≡ true → ¬ (w ≡ v)
    go true p q h = true≢false (sym q)
    go false p q h = true≢false (sym (ap (same w) (sym h) ∙ same_self w) ∙ p)
few_told_lem (v ∷ w ∷ x ∷ l) e = true≢false (sym e)

abbrev all_few : List Row → Bool
all_few [] = true
all_few (r ∷ l) = few_told r.required && all_few l

few_in : (l : List Row) → all_few l ≡ true → (r : Row) → r ∈ l → Few r.required
few_in [] e r m = absurd m.1
few_in (x ∷ l) e r (zero, m) = subst (λ (r : Row). Few r.required) (sym m) (few_told_lem x.required ((and-eq-true_iff (few_told x.required) (all_few l)).0 e).0)
few_in (x ∷ l) e r (suc i, m) = few_in l ((and-eq-true_iff (few_told x.required) (all_few l)).0 e).1 r (i, m)

pub row_few : (k : Kind) (r : Row) → r ∈ vocabulary k → Few r.required
row_few dna r m = few_in nucleotide_rows refl r m
row_few rna r m = few_in nucleotide_rows refl r m
row_few aa r m = few_in amino_rows refl r m

-- a name by how it stands: the first that is required, or the second
module _ (o : ℕ) (below : o < 2) (u w : List ℕ) where
  pub first_stands : (l : List (List ℕ)) → w ≡ u → standing_in 2 (u ∷ l) o w ≡ 2
  first_stands l e = rw (ap (same w) (sym e) ∙ same_self w)

  pub stands_first : (l : List (List ℕ)) → Few (u ∷ l) → standing_in 2 (u ∷ l) o w ≡ 2 → w ≡ u
  stands_first l f e = go (same w u) refl l f e
    where
      go : (b : Bool) → same w u ≡ b → (l : List (List ℕ)) → Few (u ∷ l) → cond b 2 (standing_in 3 l o w) ≡ 2 → w ≡ u
      go true p l f e = same_is w u p
      go false p [] f e = absurd (omega (arith, e, below))
      go false p (v ∷ []) f e = absurd (by (same w v) e)
        where
          by : (b : Bool) → cond b 3 o ≡ 2 → ⊥
          by true e = omega (arith, e)
          by false e = omega (arith, e, below)
      go false p (v ∷ x ∷ l) f e = absurd f

  pub second_stands : (v : List ℕ) → ¬ (v ≡ u) → w ≡ v → standing_in 2 (u ∷ v ∷ []) o w ≡ 3
  second_stands v n e = go (same w u) refl
    where
      go : (b : Bool) → same w u ≡ b → cond b 2 (standing_in 3 (v ∷ []) o w) ≡ 3
      go true p = absurd (n (sym e ∙ same_is w u p))
      go false p = rw (ap (same w) (sym e) ∙ same_self w)

  pub stands_second : (v : List ℕ) → standing_in 2 (u ∷ v ∷ []) o w ≡ 3 → w ≡ v
  stands_second v e = go (same w u) (same w v) refl e
    where
      go : (b c : Bool) → same w v ≡ c → cond b 2 (cond c 3 o) ≡ 3 → w ≡ v
      go true c p e = absurd (omega (arith, e))
      go false true p e = same_is w v p
      go false false p e = absurd (omega (arith, e, below))
