-- A value compared with the letters, run after run.
use Prim.Native.Nat.{ℕ, ◌+◌, ◌-◌, ◌≤◌, ◌<◌}
use Prim.Native.Char.{code}
use native.Mathlib.Numerals.{add-one}
use native.Mathlib.Omega.{arith}
use mathlib.Core.Path.{◌≡◌, refl, sym, ap, ◌∙◌}
use mathlib.Core.Bool.{Bool, true, false, true≢false}
use mathlib.Core.List.{List, [], ◌∷◌, ◌++◌, cons≢nil}
use lib.ListN.{length, take, drop, get_or, length-drop, take-append-drop, drop_of_length-le}
use lib.Seq.{drop-cons, drop-drop, ext_get_or, get_or-take, get_or-drop, length-take-le}
use lib.Dec.{eqb}
use borrow.Author.Tests.{eqb-true, eqb-false}
use Rattle.paper.specs.Locations.{spans}
use Rattle.paper.specs.Translation.{Code, coding_text, letters}
use Rattle.protein_code.specs.Tables.{SelfSpelt}
use Rattle.protein_codons.specs.declared.Reading.{Reading}
use Rattle.protein_codons.specs.Reading.{Ready, span_letters, TextLeft, Onward, Gives, LetterIs, BeginsText, Ends}
use Rattle.protein_codons.proofs.Readings.{span_within, run_gives}
use Rattle.protein_codons.proofs.Stops.{Front, front_one, front_take, stop_last, stop_last_clear, stop_inside}
use Rattle.protein_compare.specs.Comparing.{Same, RightValue, RightIf, Compares}
use Rattle.protein_compare.proofs.Rights.{right_forth, right_back, right_head, right_more, right_stop}
use Rattle.protein_compare.proofs.Plain.{as_written, as_read}

-- the letters l are right for the value exactly if those that x leaves are right for the rest of it
record Compared (gc : Code) (s loc : List ℕ) (L : ℕ) (x : Reading) (l value : List ℕ) (i : ℕ) : Type 0 where
  rest : List ℕ
  left : TextLeft s loc L x rest
  forth : RightValue l value → RightValue (letters gc rest) (drop i value)
  back : RightValue (letters gc rest) (drop i value) → RightValue l value

-- the loop's invariant
pub record Comparing (gc : Code) (s loc : List ℕ) (L : ℕ) (from : Reading) (value : List ℕ) (x : Reading) (i : ℕ) : Type 0 where
  pub ready : Ready (length s) x
  pub within : i ≤ length value
  gives : (text : List ℕ) → TextLeft s loc L from text → Compared gc s loc L x (letters gc text) value i

-- the answer, for whichever text is left at the start
abbrev Tells : Code → List ℕ → List ℕ → ℕ → Reading → List ℕ → Bool → Type 0
Tells gc s loc L from value r = (text : List ℕ) → TextLeft s loc L from text → RightIf (letters gc text) value r

module _ {gc : Code} {s loc : List ℕ} {L : ℕ} {from : Reading} {value : List ℕ} where
  pub comparing_start : Ready (length s) from → Comparing gc s loc L from value from 0
  comparing_start r =
      record { ready = r; within = omega arith; gives = λ text h. record { rest = text; left = h; forth = λ z. z; back = λ z. z } }

  module _ {x : Reading} {i : ℕ} (f : Comparing gc s loc L from value x i) where
    -- what is told of the rest is told of the whole
    tells : (r : Bool) → ((rest : List ℕ) → TextLeft s loc L x rest → RightIf (letters gc rest) (drop i value) r) → Tells gc s loc L from value r
    tells true g text h = let c = f.gives text h in c.back (g c.rest c.left)
    tells false g text h = let c = f.gives text h in λ z. g c.rest c.left (c.forth z)

    rest_of : i < length value → drop i value ≡ get_or value i 0 ∷ drop (i + 1) value
    rest_of h = rw (add-one i) (drop-cons value i 0 h)

    no_rest : length value ≤ i → drop i value ≡ []
    no_rest h = drop_of_length-le value h

    -- letters that are the next of the value: a run of them, or one
    comparing_on : {d : List ℕ} {k : ℕ} {y : Reading} → Gives gc s loc L x d y → Front d k → i + k ≤ length value
        → drop i value ≡ d ++ drop (i + k) value → Comparing gc s loc L from value y (i + k)
    comparing_on g q w p =
        record {
          ready = g.ready;
          within = w;
          gives = λ text h.
              let m = f.gives text h in
              let u = g.gives m.rest m.left in
              record {
                rest = u.others;
                left = u.left;
                forth = λ z. right_forth q (rw (u.is, p) at (m.forth z));
                back = λ z. m.back (rw (u.is, p) (right_back q z));
              };
        }

    pub comparing_one : {c : ℕ} {y : Reading} → LetterIs gc s loc L x c y → (c ≡ code "*" → ⊥) → i < length value → get_or value i 0 ≡ c
        → Comparing gc s loc L from value y (i + 1)
    comparing_one g n k e =
        comparing_on g.one (front_one n) (omega arith) (rest_of k ∙ ap (λ (b : ℕ). b ∷ drop (i + 1) value) e)

    pub comparing_run : {k : ℕ} {y : Reading} → Onward x k y → Same x.span.low x.span.high (span_letters gc s x.span.low x.span.high x.span.turned) value i k
        → Comparing gc s loc L from value y (i + k)
    comparing_run {k} o w =
        let l = span_letters gc s x.span.low x.span.high x.span.turned in
        let n : k ≤ length l = span_within gc s x.span.low x.span.high x.span.turned k w.front.within f.ready.inside in
        let rest = drop i value in
        let m : k ≤ length rest = omega (arith, length-drop i value, w.inside) in
        let e : take k rest ≡ take k l
        = ext_get_or 0 (take k rest) (take k l) (length-take-le k rest m ∙ sym (length-take-le k l n))
        (λ j b.
        let h : j < k = omega (arith, length-take-le k rest m) in
        get_or-take k rest j 0 h ∙ get_or-drop i value j 0 ∙ w.same j h ∙ sym (get_or-take k l j 0 h)) in
        comparing_on (run_gives s f.ready o gc) (front_take n w.front.clear) w.inside
        (sym (take-append-drop k rest) ∙ rw (e, drop-drop k i value))

    pub comparing_done : ((text : List ℕ) → TextLeft s loc L x text → letters gc text ≡ []) → Tells gc s loc L from value (eqb i (length value))
    comparing_done g = go (eqb i (length value)) refl
      where
        go : (b : Bool) → eqb i (length value) ≡ b → Tells gc s loc L from value b
        go true e =
            tells true
            (λ rest h. rw (g rest h, no_rest (omega (arith, eqb-true i (length value) e))) (record { clear = refl; same = refl }))
        go false e =
            let k : i < length value = let n = eqb-false i (length value) e in let w = f.within in omega arith in
            tells false (λ rest h z. let y = rw (g rest h, rest_of k) at z.same in cons≢nil y)

    module _ {c : ℕ} {y : Reading} (g : LetterIs gc s loc L x c y) where
      module _ (e : c ≡ code "*") where
        pub comparing_stop : i < length value → Tells gc s loc L from value false
        comparing_stop k =
            tells false
            (λ rest h z. let u = g.one.gives rest h in cons≢nil (sym (rest_of k) ∙ right_stop e (letters gc u.others) (rw u.is at z)))

        pub comparing_last : length value ≤ i → (r : Bool) → Ends gc s loc L y r → Tells gc s loc L from value r
        comparing_last k true q =
            tells true
            (λ rest h.
            let u = g.one.gives rest h in
            let z = q.says u.others u.left in
            rw (u.is, z, no_rest k) (record { clear = stop_last_clear e; same = sym (stop_last e) }))
        comparing_last k false q =
            tells false
            (λ rest h z.
            let u = g.one.gives rest h in
            let m = q.says u.others u.left in
            true≢false (sym (stop_inside e m.0 m.1) ∙ (rw (u.is, m.2) at z.clear)))

      module _ (n : c ≡ code "*" → ⊥) where
        pub comparing_short : length value ≤ i → Tells gc s loc L from value false
        comparing_short k = tells false (λ rest h z. let u = g.one.gives rest h in right_more n (rw (u.is, no_rest k) at z))

        module _ (k : i < length value) where
          pub comparing_differs : (get_or value i 0 ≡ c → ⊥) → Tells gc s loc L from value false
          comparing_differs d = tells false (λ rest h z. let u = g.one.gives rest h in d (right_head n (rw (u.is, rest_of k) at z)))

-- ---- the answer

module _ {gc : Code} {s loc : List ℕ} {L start : ℕ} {value : List ℕ} where
  pub compares : {from : Reading} → SelfSpelt gc → BeginsText s loc L start from → (r : Bool) → Tells gc s loc L from value r → Compares gc s loc L start value r
  compares p b true g =
      record {
        says = λ t h v e.
            let w = drop (start - 1) (coding_text s (spans t)) in
            as_read gc p w value v e (g w (b.leaves t h));
      }
  compares p b false g =
      record {
        says = λ t h v e z.
            let w = drop (start - 1) (coding_text s (spans t)) in
            g w (b.leaves t h) (as_written gc p w value v e z);
      }

  -- nothing is promised where the residues are not L
  pub compares_none : length s < L → (r : Bool) → Compares gc s loc L start value r
  compares_none k r = record { says = λ t h. absurd (let e = h.sized in omega arith) }

-- two answers that are allowed are equal
pub compared_once : (l v : List ℕ) (r q : Bool) → RightIf l v r → RightIf l v q → r ≡ q
compared_once l v true true h k = refl
compared_once l v true false h k = absurd (k h)
compared_once l v false true h k = absurd (h k)
compared_once l v false false h k = refl
