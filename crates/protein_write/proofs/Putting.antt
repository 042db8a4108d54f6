-- Letters laid at the front of lent room, run after run.
use Prim.Native.Nat.{ℕ, ◌+◌, ◌-◌, ◌≤◌, ◌<◌}
use Prim.Native.Char.{code}
use native.Mathlib.Numerals.{add-one}
use native.Mathlib.Omega.{arith}
use mathlib.Core.Path.{◌≡◌, refl, sym, ap, ◌∙◌}
use mathlib.Core.Bool.{Bool, true, false, cond}
use mathlib.Core.List.{List, [], ◌∷◌, ◌++◌}
use lib.ListN.{length, take, drop, get_or, set, length-append, length-drop}
use Rattle.lent_room.proofs.Laws.{sets_append, sets_front}
use lib.Seq.{sets, length-sets, take-add, take_at, drop_at, drop-cons, drop-drop, length-take-le}
use lib.Dec.{eqb}
use Rattle.paper.specs.Locations.{spans}
use Rattle.paper.specs.Translation.{Code, coding_text, letters, drop_stop}
use Rattle.paper.specs.Answers.{front}
use Rattle.protein_codons.specs.declared.Reading.{Reading}
use Rattle.protein_codons.specs.Reading.{Ready, span_letters, TextLeft, Onward, Gives, LetterIs, BeginsText}
use Rattle.protein_codons.proofs.Readings.{span_within, run_gives}
use Rattle.std.specs.Prelude.{Result, Ok, Err}
use Rattle.protein_measure.specs.declared.Untranslated.{Untranslated}
use Rattle.protein_measure.specs.Measuring.{Measured, Measures}
use Rattle.protein_write.specs.Writing.{LaysLetters, PutsLetters, after_of, WritesTranslation}
use Rattle.protein_measure.proofs.Measuring.{measured_once}

-- ---- the translation is at the front of the letters

translation_front : (l : List ℕ) → drop_stop l ≡ take (length (drop_stop l)) l
translation_front [] = refl
translation_front (x ∷ []) = go (eqb x (code "*"))
  where
    go : (b : Bool) → cond b [] (x ∷ []) ≡ take (length (cond b [] (x ∷ []))) (x ∷ [])
    go true = refl
    go false = refl
translation_front (x ∷ y ∷ l) = ap (λ (z : List ℕ). x ∷ z) (translation_front (y ∷ l))

translation_short : (l : List ℕ) → length (drop_stop l) ≤ length l
translation_short [] = omega arith
translation_short (x ∷ []) = go (eqb x (code "*"))
  where
    go : (b : Bool) → length (cond b [] (x ∷ [])) ≤ 1
    go true = omega arith
    go false = omega arith
translation_short (x ∷ y ∷ l) = let h = translation_short (y ∷ l) in omega arith

-- ---- letters laid

-- of the letters l the first k are done, then come d and then o
module _ (l d o : List ℕ) (k n : ℕ) (size : length d ≡ n) (e : drop k l ≡ d ++ o) where
  pub take_more : take (k + n) l ≡ take k l ++ d
  take_more = take-add k n l ∙ ap (λ (z : List ℕ). take k l ++ take n z) e ∙ ap (λ (z : List ℕ). take k l ++ z) (take_at d o n size)

  pub drop_more : drop (k + n) l ≡ o
  drop_more = sym (drop-drop n k l) ∙ ap (drop n) e ∙ drop_at d o n size

-- of the letters l, k are written and x leaves the others
pub record Laid (gc : Code) (s loc : List ℕ) (L : ℕ) (before after : List ℕ) (x : Reading) (k : ℕ) (l : List ℕ) : Type 0 where
  pub rest : List ℕ
  pub left : TextLeft s loc L x rest
  pub all : k ≤ length l
  pub others : letters gc rest ≡ drop k l
  pub holds : after ≡ sets before 0 (take k l)

-- the loop's invariant
pub record Putting (gc : Code) (s loc : List ℕ) (L : ℕ) (from : Reading) (count : ℕ) (before after : List ℕ) (x : Reading) (k : ℕ) : Type 0 where
  pub ready : Ready (length s) x
  pub within : k ≤ count
  pub room : count ≤ length before
  pub size : length after ≡ length before
  pub laid : (text : List ℕ) → TextLeft s loc L from text → Laid gc s loc L before after x k (letters gc text)

module _ {gc : Code} {s loc : List ℕ} {L : ℕ} {from : Reading} {count : ℕ} {before : List ℕ} where
  pub putting_start : Ready (length s) from → count ≤ length before → Putting gc s loc L from count before before from 0
  putting_start r h =
      record {
        ready = r;
        within = omega arith;
        room = h;
        size = refl;
        laid = λ text t. record { rest = text; left = t; all = omega arith; others = refl; holds = refl };
      }

  module _ {after : List ℕ} {x : Reading} {k : ℕ} (f : Putting gc s loc L from count before after x k) where
    next_of : (l : List ℕ) → k < length l → drop k l ≡ get_or l k 0 ∷ drop (k + 1) l
    next_of l h = rw (add-one k) (drop-cons l k 0 h)

    pub putting_end : count ≤ k → PutsLetters gc s loc L from count before after
    putting_end h =
        let w = f.within in
        let e : k ≡ count = omega arith in
        record {
          says = λ text t n.
              let l = take k (letters gc text) in
              rw (← e) ((f.laid text t).holds ∙ sets_front l before (omega (arith, length-take-le k (letters gc text) (omega (arith, e, n)), f.room, w)));
        }

    -- d behind the first k letters
    behind : (l d : List ℕ) → k ≤ length l → sets (sets before 0 (take k l)) k d ≡ sets before 0 (take k l ++ d)
    behind l d h = ap (λ (i : ℕ). sets (sets before 0 (take k l)) i d) (omega (arith, length-take-le k l h)) ∙ sets_append (take k l) d before 0

    -- letters laid: a run of them, or one
    putting_on : {d : List ℕ} {n : ℕ} {y : Reading} {out : List ℕ} → Gives gc s loc L x d y → length d ≡ n → k + n ≤ count
        → out ≡ sets after k d → Putting gc s loc L from count before out y (k + n)
    putting_on {d} {n} {y} {out} g size w e =
        record {
          ready = g.ready;
          within = w;
          room = f.room;
          size = ap length e ∙ length-sets after k d ∙ f.size;
          laid = λ text t.
              let l = letters gc text in
              let u = f.laid text t in
              let v = g.gives u.rest u.left in
              let z : drop k l ≡ d ++ letters gc v.others = sym u.others ∙ v.is in
              record {
                rest = v.others;
                left = v.left;
                all = omega (arith, u.all, length-drop k l, ap length z, length-append d (letters gc v.others));
                others = sym (drop_more l d (letters gc v.others) k n size z);
                holds = e ∙ ap (λ (w : List ℕ). sets w k d) u.holds ∙ behind l d u.all ∙ ap (sets before 0) (sym (take_more l d (letters gc v.others) k n size z));
              };
        }

    pub putting_one : {c : ℕ} {y : Reading} → LetterIs gc s loc L x c y → k < count → Putting gc s loc L from count before (set after k c) y (k + 1)
    putting_one {c} g h =
        putting_on g.one refl (omega arith) refl

    pub putting_run : {n : ℕ} {y : Reading} {out : List ℕ} → Onward x n y
        → LaysLetters x.span.low x.span.high (span_letters gc s x.span.low x.span.high x.span.turned) k count n after out → Putting gc s loc L from count before out y (k + n)
    putting_run {n} o w =
        let l = span_letters gc s x.span.low x.span.high x.span.turned in
        putting_on (run_gives s f.ready o gc) (length-take-le n l (span_within gc s x.span.low x.span.high x.span.turned n w.within f.ready.inside))
        w.inside w.is

    module _ (h : k < count) where
      pub putting_done : ((text : List ℕ) → TextLeft s loc L x text → letters gc text ≡ []) → PutsLetters gc s loc L from count before after
      putting_done g =
          record {
            says = λ text t n.
                let u = f.laid text t in
                let z : ◌≡◌ {A = List ℕ} [] (get_or (letters gc text) k 0 ∷ drop (k + 1) (letters gc text))
                = sym (g u.rest u.left) ∙ u.others ∙ next_of (letters gc text) (omega arith) in
                absurd (omega (arith, ap length z));
          }

-- ---- the answer

module _ {gc : Code} {s loc : List ℕ} {L start : ℕ} {out : List ℕ} where
  pub writes_is : {from : Reading} {n : ℕ} {after : List ℕ} → BeginsText s loc L start from → Measures gc s loc L start (length out) (Ok n)
      → PutsLetters gc s loc L from n out after → WritesTranslation gc s loc L start out (Ok n) after
  writes_is {from} {n} b m p =
      record {
        says = λ t h.
            let w = drop (start - 1) (coding_text s (spans t)) in
            let l = letters gc w in
            let k = m.says t h in
            let e : take n l ≡ drop_stop l = ap (λ (i : ℕ). take i l) k.1 ∙ sym (translation_front l) in
            (k, p.says w (b.leaves t h) (omega (arith, k.1, translation_short l)) ∙ ap (λ (x : List ℕ). front x out) e);
      }

  pub writes_none : {e : Untranslated} → Measures gc s loc L start (length out) (Err e) → WritesTranslation gc s loc L start out (Err e) out
  writes_none m = record { says = λ t h. (m.says t h, refl) }

-- two answers that are allowed are equal, and what they leave
pub written_once : (l out : List ℕ) (r q : Result ℕ Untranslated) (a b : List ℕ) → Measured l (length out) r × (a ≡ after_of l out r) → Measured l (length out) q × (b ≡ after_of l out q)
    → ◌≡◌ {A = Result ℕ Untranslated × List ℕ} (r, a) (q, b)
written_once l out r q a b h k =
    let e = measured_once l (length out) r q h.0 k.0 in
    let f : a ≡ b = h.1 ∙ ap (after_of l out) e ∙ sym k.1 in
    λ i. (e i, f i)
