-- No segment or site has a `,`: so the one before it is found from behind.
use Prim.Native.Nat.{ℕ, zero, suc, ◌+◌, ◌-◌, ◌≤◌, ◌<◌}
use Prim.Native.Char.{code}
use native.Mathlib.Omega.{arith}
use native.Mathlib.Decide.{ℕ_discrete}
use mathlib.Core.Path.{◌≡◌, sym, ap, ◌∙◌}
use mathlib.Core.Bool.{Bool, false}
use mathlib.Core.Logic.{◌⊎◌, inl, inr}
use mathlib.Core.List.{List, [], ◌∷◌}
use lib.ListN.{length, get_or, length-drop, length-append, get_or-append}
use lib.Seq.{get_or-drop}
use borrow.Author.Tests.{eq-eqb}
use Rattle.paper.specs.Bytes.{raw}
use Rattle.paper.specs.Locations.{Piece}
use Rattle.paper.proofs.Texts.{raw_append}
use Rattle.location_spans.specs.Walking.{Written}
use Rattle.location_spans.specs.Members.{LastStart}
use Rattle.location_spans.proofs.Counted.{commas, has_piece}

none_at : (w : List ℕ) (n : ℕ) → n < length w → commas w ≡ 0 → get_or w n 0 ≡ code "," → ⊥
none_at [] n l h e = omega arith
none_at (b ∷ w) zero l h e = let k = eq-eqb b (code ",") e in omega (arith, rw k at h)
none_at (b ∷ w) (suc n) l h e = none_at w n (omega arith) (omega arith) e

module _ {s : List ℕ} {L : ℕ} {c : Bool} {p : Piece} {i j : ℕ} {z : List ℕ} (h : Written s L c p i j z) where
  written_size : length s - i ≡ length (raw h.text) + (length s - j)
  written_size =
      omega (
        arith,
        ap length (h.from.is ∙ raw_append h.text z),
        length-append (raw h.text) (raw z),
        ap length h.to.is,
        length-drop i s,
        length-drop j s,
      )

  pub written_order : (i ≤ j) × (j ≤ length s)
  written_order = (omega (arith, written_size, h.from.inside, h.to.inside), h.to.inside)

written_plain : {s : List ℕ} {L : ℕ} {p : Piece} {i j : ℕ} {z : List ℕ} → Written s L false p i j z → (k : ℕ) → i ≤ k → k < j → get_or s k 0 ≡ code "," → ⊥
written_plain {s} {L} {p} {i} {j} {z} h k l m e =
    let r = raw h.text in
    let inside : k - i < length r = omega (arith, written_size h, (written_order h).1) in
    let a : i + (k - i) ≡ k = omega arith in
    let b : get_or s k 0 ≡ get_or r (k - i) 0
    = ap (λ (n : ℕ). get_or s n 0) (sym a) ∙ sym (get_or-drop i s (k - i) 0) ∙ ap (λ (w : List ℕ). get_or w (k - i) 0) (h.from.is ∙ raw_append h.text z)
    ∙ get_or-append r (raw z) 0 (k - i) inside in
    none_at r (k - i) inside ((has_piece p).is 0 h.text h.is) (sym b ∙ e)

-- ---- the search from behind

-- from i to `at` there is no `,`
pub record Searched (s : List ℕ) (low at i : ℕ) : Type 0 where
  pub after : low ≤ i
  pub before : i ≤ at
  pub none_in : (j : ℕ) → i ≤ j → j < at → get_or s j 0 ≡ code "," → ⊥

pub searched_start : {s : List ℕ} {low at : ℕ} → low ≤ at → Searched s low at at
searched_start h = record { after = h; before = omega arith; none_in = λ j k l. absurd (omega arith) }

module _ {s : List ℕ} {low at i : ℕ} (h : Searched s low at i) where
  pub searched_next : low < i → (get_or s (i - 1) 0 ≡ code "," → ⊥) → Searched s low at (i - 1)
  searched_next l n =
      record { after = omega arith; before = omega (arith, h.before); none_in = λ j k m e. go (ℕ_discrete j (i - 1)) k m e }
    where
      go : {j : ℕ} → Dec (j ≡ i - 1) → i - 1 ≤ j → j < at → get_or s j 0 ≡ code "," → ⊥
      go (yes q) k m e = n (ap (λ (x : ℕ). get_or s x 0) (sym q) ∙ e)
      go {j} (no q) k m e = h.none_in j (omega arith) m e

  found : (i ≡ low) ⊎ ((low < i) × (get_or s (i - 1) 0 ≡ code ",")) → LastStart s low at i
  found c = record { after = h.after; before = h.before; none_in = h.none_in; comma = c }

  pub searched_found : low < i → get_or s (i - 1) 0 ≡ code "," → LastStart s low at i
  searched_found l e = found (inr (l, e))

  pub searched_end : i ≤ low → LastStart s low at i
  searched_end l = found (inl (omega (arith, h.after)))

-- it finds where the last segment or site starts
module _ {s : List ℕ} {L low at i : ℕ} {p : Piece} {z : List ℕ} (h : LastStart s low at i) where
  pub start_first : Written s L false p low at z → i ≡ low
  start_first x = go h.comma
    where
      go : (i ≡ low) ⊎ ((low < i) × (get_or s (i - 1) 0 ≡ code ",")) → i ≡ low
      go (inl e) = e
      go (inr q) = absurd (written_plain x (i - 1) (omega (arith, q.0)) (omega (arith, q.0, h.before)) q.1)

  pub start_more : {k : ℕ} → low ≤ k → get_or s k 0 ≡ code "," → Written s L false p (k + 1) at z → i ≡ k + 1
  start_more {k} l e x = go h.comma
    where
      early : i ≤ k → ⊥
      early q = h.none_in k q (omega (arith, (written_order x).0)) e

      later : low < i → get_or s (i - 1) 0 ≡ code "," → k + 1 < i → ⊥
      later a q m = written_plain x (i - 1) (omega arith) (omega (arith, h.before)) q

      go : (i ≡ low) ⊎ ((low < i) × (get_or s (i - 1) 0 ≡ code ",")) → i ≡ k + 1
      go (inl q) = absurd (early (omega arith))
      go (inr q) = omega (arith, early, later q.0 q.1)
