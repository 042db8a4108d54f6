-- What stands before the first byte outside a class, and where that byte is written.
use Prim.Native.Nat.{ℕ, ◌≤◌}
use native.Mathlib.Omega.{arith}
use mathlib.Core.Path.{◌≡◌, refl, sym, ap, ◌∙◌, subst}
use mathlib.Core.Bool.{Bool, true, false, cond, true≢false}
use mathlib.Core.List.{List, [], ◌∷◌, ◌++◌, append-nil}
use lib.ListN.{length, length-append}
use Rattle.paper.specs.Bytes.{raw, all, leading}
use Rattle.paper.proofs.Texts.{raw_append, raw_longer}

module _ (f : ℕ → Bool) where
  pub leading_in : (v : List ℕ) → all f (leading f v)
  leading_in [] = tt
  leading_in (b ∷ v) = by (f b) refl (leading_in v)
    where
      by : (c : Bool) → f b ≡ c → all f (leading f v) → all f (cond c (b ∷ leading f v) [])
      by true e h = (e, h)
      by false e h = tt

  -- v is cut at its first byte outside, if it has one
  pub data Cut (v : List ℕ) : Type 0 where
    whole : all f v → leading f v ≡ v → Cut v
    before : (b : ℕ) (x : List ℕ) → v ≡ leading f v ++ (b ∷ x) → f b ≡ false → Cut v

  pub cut : (v : List ℕ) → Cut v
  cut [] = whole tt refl
  cut (b ∷ v) = by (f b) refl (cut v)
    where
      by : (c : Bool) → f b ≡ c → Cut v → Cut (b ∷ v)
      by true e (whole a q) = whole (e, a) (rw e (ap (◌∷◌ b) q))
      by true e (before c x q o) = before c x (rw e (ap (◌∷◌ b) q)) o
      by false e h = before b v (rw e refl) e

  -- what is left behind it
  pub leading_rest : (v : List ℕ) → (x : List ℕ) × (v ≡ leading f v ++ x)
  leading_rest v = by (cut v)
    where
      by : Cut v → (x : List ℕ) × (v ≡ leading f v ++ x)
      by (whole a q) = ([], sym (append-nil (leading f v) ∙ q))
      by (before b x q o) = (b ∷ x, q)

  not_all : (u : List ℕ) (b : ℕ) (x : List ℕ) → f b ≡ false → ¬ all f (u ++ (b ∷ x))
  not_all [] b x o a = true≢false (sym a.0 ∙ o)
  not_all (c ∷ u) b x o a = not_all u b x o a.1

  pub all? : (v : List ℕ) → Dec (all f v)
  all? v = by (cut v)
    where
      by : Cut v → Dec (all f v)
      by (whole a q) = yes a
      by (before b x q o) = no (λ a. not_all (leading f v) b x o (subst (all f) q a))

  -- then nothing is cut off
  pub leading_all : (v : List ℕ) → all f v → leading f v ≡ v
  leading_all v a = by (cut v)
    where
      by : Cut v → leading f v ≡ v
      by (whole a' q) = q
      by (before b x q o) = absurd (not_all (leading f v) b x o (subst (all f) q a))

  -- as many bytes are written before the first outside as in all: there is none
  pub all_leading : (v : List ℕ) → length (raw v) ≤ length (raw (leading f v)) → all f v
  all_leading v h = by (cut v)
    where
      by : Cut v → all f v
      by (whole a q) = a
      by (before b x q o) =
          absurd
          (omega (arith, h, raw_longer (b ∷ x), ap (λ (w : List ℕ). length (raw w)) q, ap length (raw_append (leading f v) (b ∷ x)), length-append (raw (leading f v)) (raw (b ∷ x))))
