-- Laws of texts in raw bytes: what bytes that stand at a place say of the text that stands there.
use Prim.Native.Nat.{ℕ, ◌+◌, ◌≤◌, ◌<◌}
use native.Mathlib.Omega.{arith}
use native.Mathlib.Numerals.{add-one}
use mathlib.Core.Path.{◌≡◌, refl, sym, ap, ◌∙◌}
use mathlib.Core.Bool.{Bool, true, false}
use mathlib.Core.List.{List, [], ◌∷◌, ◌++◌, append_assoc}
use lib.ListN.{length, get_or, drop, drop_of_length-le, length-append, length-drop}
use lib.Seq.{drop-cons, drop-drop, drop-append_seam}
use Rattle.paper.specs.Bytes.{spell, raw}
use Rattle.paper.proofs.Texts.{unspell, unspell_spell, spell_some, raw_append}
use Rattle.read_bytes.specs.Words.{There}
use Rattle.read_bytes.proofs.Words.{stands_here}
use Rattle.location_judge.specs.Places.{RestIs, Stretch}

-- a text whose bytes start with those of u starts with u
raw_strip : (u w y : List ℕ) → raw w ≡ raw u ++ y → (z : List ℕ) × (w ≡ u ++ z) × (raw z ≡ y)
raw_strip [] w y e = (w, refl, e)
raw_strip (b ∷ u) [] y e = absurd (spell_some b (raw u ++ y) (sym (e ∙ append_assoc (spell b) (raw u) y)))
raw_strip (b ∷ u) (c ∷ w) y e =
    let q : ◌≡◌ {A = ℕ × List ℕ} (c, raw w) (b, raw u ++ y)
    = sym (unspell_spell c (raw w)) ∙ ap unspell (e ∙ append_assoc (spell b) (raw u) y) ∙ unspell_spell b (raw u ++ y) in
    let p = raw_strip u w y (ap (λ (x : ℕ × List ℕ). x.1) q) in
    (p.0, λ i. (q i).0 ∷ p.1 i, p.2)

-- the text w starts with u, and what follows stands at n
abbrev pub After : List ℕ → List ℕ → List ℕ → ℕ → Type 0
After s u w n = (z : List ℕ) × (w ≡ u ++ z) × RestIs s n z

-- no text u stands at the start of w
abbrev pub Lacks : List ℕ → List ℕ → Type 0
Lacks u w = (z : List ℕ) → w ≡ u ++ z → ⊥

-- by a test whether the text u stands at a place
module _ (u : List ℕ) {s : List ℕ} {at : ℕ} {t : Bool} (h : There (raw u) s at t) where
  pub room : t ≡ true → at + length (raw u) ≤ length s
  room e = (h.yes e).inside

  module _ {w : List ℕ} (st : RestIs s at w) where
    pub begun : t ≡ true → After s u w (at + length (raw u))
    begun e =
        let p = raw_strip u w (drop (at + length (raw u)) s) (sym st.is ∙ (h.yes e).here) in
        (p.0, p.1, record { inside = room e; is = sym p.2 })

    pub not_begun : t ≡ false → Lacks u w
    not_begun e z q = h.no e (stands_here st.inside (raw z) (st.is ∙ ap raw q ∙ raw_append u z))

  -- what a test has found is text
  pub stretch_text : t ≡ true → Stretch s at (at + length (raw u))
  stretch_text e = record { onward = omega arith; inside = room e; text = u; is = (h.yes e).here }

-- from a place to itself: no text
pub stretch_none : {s : List ℕ} {at : ℕ} → at ≤ length s → Stretch s at at
stretch_none h = record { onward = omega arith; inside = h; text = []; is = refl }

-- one stretch after another
pub stretch_join : {s : List ℕ} {i j k : ℕ} → Stretch s i j → Stretch s j k → Stretch s i k
stretch_join {s} {k = k} a b =
    record {
      onward = omega (arith, a.onward, b.onward);
      inside = b.inside;
      text = a.text ++ b.text;
      is = a.is ∙ ap (λ (z : List ℕ). raw a.text ++ z) b.is ∙ sym (append_assoc (raw a.text) (raw b.text) (drop k s))
          ∙ ap (λ (z : List ℕ). z ++ drop k s) (sym (raw_append a.text b.text));
    }

-- what stands behind a text
pub behind_text : {s : List ℕ} {at : ℕ} (u z : List ℕ) → RestIs s at (u ++ z) → RestIs s (at + length (raw u)) z
behind_text {s} {at} u z st =
    let e = st.is ∙ raw_append u z in
    record {
      inside = omega (arith, st.inside, ap length e, length-append (raw u) (raw z), length-drop at s);
      is = sym (drop-drop (length (raw u)) at s) ∙ ap (drop (length (raw u))) e ∙ drop-append_seam (raw u) (raw z);
    }

-- nothing stands at the end
pub at_end : {s : List ℕ} {at : ℕ} (w : List ℕ) → RestIs s at w → length s ≤ at → w ≡ []
at_end [] st h = refl
at_end {s} (b ∷ w) st h = absurd (spell_some b (raw w) (sym st.is ∙ drop_of_length-le s h))

pub suffix : (s : List ℕ) (i d : ℕ) → i < length s → d ≡ get_or s i 0 → drop i s ≡ d ∷ drop (i + 1) s
suffix s i d h e = rw (add-one, e, drop-cons s i 0)
