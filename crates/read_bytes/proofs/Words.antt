-- Words at a place: a word whose bytes are all alike stands there, and one that stands has them alike.
use Prim.Native.Nat.{ℕ, ◌+◌, ◌≤◌, ◌<◌}
use native.Mathlib.Decide.{dec_lt}
use native.Mathlib.Omega.{arith}
use mathlib.Core.Path.{◌≡◌, ap, sym, ◌∙◌}
use mathlib.Core.Bool.{true, false, true≢false, false≢true}
use mathlib.Core.List.{List, ◌++◌}
use lib.ListN.{length, get_or, take, drop, length-append, length-drop, take-append-drop, get_or-append}
use lib.Seq.{length-take-le, get_or-take, get_or-drop, drop-drop, drop-append_seam, ext_get_or}
use Rattle.read_bytes.specs.Words.{StandsAt, There}

-- from `at` on s has the first n bytes of x
abbrev pub Alike : List ℕ → List ℕ → ℕ → ℕ → Type 0
Alike x s at n = (k : ℕ) → k < n → get_or s (at + k) 0 ≡ get_or x k 0

module _ (x s : List ℕ) (at : ℕ) where
  pub alike_none : Alike x s at 0
  alike_none k h = absurd (omega arith)

  -- one byte more
  pub alike_next : {n : ℕ} → Alike x s at n → get_or s (at + n) 0 ≡ get_or x n 0 → Alike x s at (n + 1)
  alike_next {n} a e k h = cases (dec_lt k n)
    where
      cases : Dec (k < n) → get_or s (at + k) 0 ≡ get_or x k 0
      cases (yes l) = a k l
      cases (no l) =
          let q : n ≡ k = omega arith in
          ap (λ (i : ℕ). get_or s (at + i) 0) (sym q) ∙ e ∙ ap (λ (i : ℕ). get_or x i 0) q

  pub alike_stands : at + length x ≤ length s → Alike x s at (length x) → StandsAt x s at
  alike_stands h a =
      let n = length x in
      let t = drop at s in
      let size : length (take n t) ≡ n = length-take-le n t (omega (arith, h, length-drop at s)) in
      let same : take n t ≡ x = ext_get_or 0 (take n t) x size (λ i l. get_or-take n t i 0 (omega (arith, l, size)) ∙ get_or-drop at s i 0 ∙ a i (omega (arith, l, size))) in
      record { inside = h; here = sym (take-append-drop n t) ∙ (λ i. same i ++ drop-drop n at s i) }

module _ {x s : List ℕ} {at : ℕ} where
  pub stands_alike : StandsAt x s at → Alike x s at (length x)
  stands_alike h k l =
      sym (get_or-drop at s k 0) ∙ ap (λ (t : List ℕ). get_or t k 0) h.here ∙ get_or-append x (drop (at + length x) s) 0 k l

  -- a word stands where the text goes on with it
  pub stands_here : at ≤ length s → (y : List ℕ) → drop at s ≡ x ++ y → StandsAt x s at
  stands_here h y e =
      let rest : drop (at + length x) s ≡ y = sym (drop-drop (length x) at s) ∙ ap (drop (length x)) e ∙ drop-append_seam x y in
      record { inside = omega (arith, h, ap length e, length-append x y, length-drop at s); here = e ∙ ap (λ (z : List ℕ). x ++ z) (sym rest) }

  -- no text goes on past its end with a word that isn't empty
  pub stands_long : 0 < length x → (y : List ℕ) → drop at s ≡ x ++ y → StandsAt x s at
  stands_long h y e = stands_here (omega (arith, h, ap length e, length-append x y, length-drop at s)) y e

  -- ---- what a test says

  pub is_there_lem : StandsAt x s at → There x s at true
  is_there_lem h = record { yes = λ e. h; no = λ e. absurd (true≢false e) }

  pub not_there : ¬ StandsAt x s at → There x s at false
  not_there h = record { yes = λ e. absurd (false≢true e); no = λ e. h }
