-- The verdict on a whole text.
use Prim.Native.Nat.{ℕ, ◌≤◌, ◌<◌}
use native.Mathlib.Omega.{arith}
use mathlib.Core.Path.{◌≡◌, refl, sym, ap, ◌∙◌, subst}
use mathlib.Core.Bool.{true}
use mathlib.Core.Option.{none, some, none-ne-some}
use mathlib.Core.List.{List, [], ◌∷◌, ◌++◌, append-nil}
use lib.ListN.{length, length-drop, drop_of_length-le}
use Rattle.std.specs.Prelude.{Option, None, Some}
use Rattle.paper.specs.Bytes.{raw}
use Rattle.paper.specs.Locations.{Location, Locates}
use Rattle.paper.proofs.Texts.{raw_once}
use Rattle.paper.proofs.Locate.{locate_sound, locate_complete, locates_once}
use Rattle.paper.proofs.Locate.Model.{read, wholly, locate}
use Rattle.location_judge.specs.Places.{RestIs}
use Rattle.location_judge.specs.Judging.{AreFacts, JudgedText, Spells, Judges}
use Rattle.location_judge.specs.Readings.{Outs}
use Rattle.location_judge.specs.declared.judging.Facts.{Facts}
use Rattle.location_judge.specs.declared.judging.Located.{Located}
use Rattle.location_judge.proofs.Stand.{at_end}

-- a whole text stands at the start
pub whole : {s w : List ℕ} → s ≡ raw w → RestIs s 0 w
whole e = record { inside = omega arith; is = e }

-- bytes are no location if the model reads none of any text that they are written from
unlocated : {s : List ℕ} → ((w : List ℕ) → RestIs s 0 w → locate w ≡ none) → (t : Location) → Spells s t → ⊥
unlocated h t x = none-ne-some t (sym (h x.text (whole x.written)) ∙ locate_complete x.text t x.located)

module _ {s : List ℕ} {top : ℕ} where
  pub judge_bad : Outs s 0 top (read 2 true true) None → Judges s top None
  judge_bad h = unlocated (λ w st. ap wholly (h.says w st))

  module _ {x : Located} (h : Outs s 0 top (read 2 true true) (Some x)) where
    pub judge_left : x.end < length s → Judges s top None
    judge_left l = unlocated (λ w st. let m = h.says w st in go w m.value m.rest m.stands m.is)
      where
        go : (w : List ℕ) (t : Location) (z : List ℕ) → RestIs s x.end z → read 2 true true w ≡ some (t, z) → locate w ≡ none
        go w t [] st q = absurd (omega (arith, ap length st.is, length-drop x.end s))
        go w t (b ∷ z) st q = ap wholly q

    pub judge_is : length s ≤ x.end → Judges s top (Some x.facts)
    judge_is l =
        let w = h.within.text in
        let e : s ≡ raw w = h.within.is ∙ ap (λ (z : List ℕ). raw w ++ z) (drop_of_length-le s l) ∙ append-nil (raw w) in
        let m = h.says w (whole e) in
        let q : read 2 true true w ≡ some (m.value, []) = m.is ∙ ap (λ (z : List ℕ). some (m.value, z)) (at_end m.rest m.stands l) in
        (m.value, record { text = w; written = e; located = locate_sound w m.value (ap wholly q) }, m.holds)

-- ---- bytes that are a location are one text and no other

read_as : {s : List ℕ} {t : Location} → Spells s t → (w : List ℕ) → s ≡ raw w → Locates t w
read_as {t = t} x w e = subst (Locates t) (raw_once x.text w (sym x.written ∙ e)) x.located

spells_once : {s : List ℕ} {t u : Location} → Spells s t → Spells s u → t ≡ u
spells_once {t = t} {u} x y = locates_once t u x.located (read_as y x.text x.written)

-- the verdict on the text as read
pub judged_by : {s : List ℕ} (L : ℕ) (r : Option Facts) → Judges s L r → (w : List ℕ) → s ≡ raw w → JudgedText L w r
judged_by L None j w e = λ t x. j t (record { text = w; written = e; located = x })
judged_by L (Some f) j w e = (j.0, read_as j.1 w e, j.2)

-- ---- two verdicts that are allowed are equal

facts_once : {L : ℕ} {t : Location} {f g : Facts} → AreFacts L t f → AreFacts L t g → f ≡ g
facts_once h k =
    λ i.
    record {
      wrong = (h.wrong ∙ sym k.wrong) i;
      complemented = (h.complemented ∙ sym k.complemented) i;
      unjudged = (h.unjudged ∙ sym k.unjudged) i;
    }

pub judges_once : (s : List ℕ) (L : ℕ) (r q : Option Facts) → Judges s L r → Judges s L q → r ≡ q
judges_once s L None None h k = refl
judges_once s L None (Some g) h k = absurd (h k.0 k.1)
judges_once s L (Some f) None h k = absurd (k h.0 h.1)
judges_once s L (Some f) (Some g) h k =
    ap Some (facts_once h.2 (subst (λ (t : Location). AreFacts L t g) (spells_once k.1 h.1) k.2))
