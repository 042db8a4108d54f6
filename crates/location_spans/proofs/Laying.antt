-- Spans laid into lent room, one after another, and what is answered.
use Prim.Native.Nat.{ℕ, suc, ◌+◌, ◌*◌, ◌/◌, ◌≤◌, ◌<◌}
use native.Mathlib.Omega.{arith}
use mathlib.Core.Path.{◌≡◌, refl, sym, ap, ◌∙◌}
use mathlib.Core.Bool.{cond}
use mathlib.Core.List.{List, [], ◌∷◌, ◌++◌, append_assoc, append-nil}
use lib.ListN.{length, set, length-append, length-set}
use lib.Seq.{sets}
use lib.Dec.{ltb}
use borrow.Author.Tests.{lt-ltb, le-ltb}
use Rattle.std.specs.Prelude.{Option, None, Some}
use Rattle.paper.specs.Locations.{Location, one, many, join, order, Span, spans, operator_number}
use Rattle.paper.specs.Answers.{triples, front}
use Rattle.location_judge.specs.Readings.{operator_code}
use Rattle.lent_room.proofs.Laws.{sets_append, sets_front}
use Rattle.location_spans.specs.Walking.{Left, Steps, Starts, span_is}
use Rattle.location_spans.specs.Room.{CountsSpans, PutsSpans, AnswerSays, Answers}
use Rattle.location_spans.specs.declared.walking.Walk.{Walk}
use Rattle.location_spans.specs.declared.walking.Started.{Started}
use Rattle.location_spans.specs.declared.walking.NextSpan.{NextSpan}
use Rattle.location_judge.specs.declared.operators.Operator.{Operator}
use Rattle.location_judge.specs.declared.operators.Operator.TheVariants.{Join, Order}
use Rattle.location_spans.specs.declared.room.WrittenSpans.{WrittenSpans}

triples_size : (l : List Span) → length (triples l) ≡ length l * 3
triples_size [] = refl
triples_size (x ∷ l) = let h = triples_size l in omega arith

triples_snoc : (l : List Span) (x : Span) → triples (l ++ (x ∷ [])) ≡ triples l ++ (x.first ∷ x.last ∷ x.marks ∷ [])
triples_snoc [] x = refl
triples_snoc (y ∷ l) x = ap (λ (z : List ℕ). y.first ∷ y.last ∷ y.marks ∷ z) (triples_snoc l x)

-- the spans l stand at the front, and then one more
sets_span : (l : List Span) (x : Span) (out : List ℕ)
    → set (set (set (sets out 0 (triples l)) (length l * 3) x.first) (length l * 3 + 1) x.last) (length l * 3 + 2) x.marks
    ≡ sets out 0 (triples (l ++ (x ∷ [])))
sets_span l x out =
    let k : 0 + length (triples l) ≡ length l * 3 = omega (arith, triples_size l) in
    let a : length l * 3 + 1 ≡ suc (length l * 3) = omega arith in
    let b : length l * 3 + 2 ≡ suc (suc (length l * 3)) = omega arith in
    rw (a, b, triples_snoc l x, ← k) (sets_append (triples l) (x.first ∷ x.last ∷ x.marks ∷ []) out 0)

-- of the spans l, those done are written and the others are left
record Laid (s : List ℕ) (L : ℕ) (before after : List ℕ) (w : Walk) (k : ℕ) (l : List Span) : Type 0 where
  done : List Span
  others : List Span
  all : l ≡ done ++ others
  many : length done ≡ k
  left : Left s L w others
  holds : after ≡ sets before 0 (triples done)

-- the loop's invariant, for whichever spans are left at the start
pub record Laying (s : List ℕ) (L : ℕ) (from : Walk) (count : ℕ) (before after : List ℕ) (w : Walk) (k : ℕ) : Type 0 where
  pub within : k ≤ count
  pub room : count * 3 ≤ length before
  pub size : length after ≡ length before
  laid : (l : List Span) → Left s L from l → length l ≡ count → Laid s L before after w k l

module _ {s : List ℕ} {L : ℕ} {from : Walk} {count : ℕ} {before : List ℕ} where
  pub laying_start : count * 3 ≤ length before → Laying s L from count before before from 0
  laying_start h =
      record {
        within = omega arith;
        room = h;
        size = refl;
        laid = λ l x e. record { done = []; others = l; all = refl; many = refl; left = x; holds = refl };
      }

  module _ {after : List ℕ} {w : Walk} {k : ℕ} (y : Laying s L from count before after w k) where
    pub laying_done : k < count → Steps s L w None → PutsSpans s L from count before after
    laying_done h f l x e =
        let z = y.laid l x e in
        absurd (omega (arith, ap length z.all, length-append z.done z.others, ap length (f.yields z.others z.left), z.many))

    pub laying_end : count ≤ k → PutsSpans s L from count before after
    laying_end h l x e = let z = y.laid l x e in go z z.others z.all
      where
        go : (z : Laid s L before after w k l) (r : List Span) → l ≡ z.done ++ r → after ≡ front (triples l) before
        go z [] q =
            z.holds
            ∙ ap (λ (m : List Span). sets before 0 (triples m)) (sym (q ∙ append-nil z.done))
            ∙ sets_front (triples l) before (omega (arith, triples_size l, e, y.room))
        go z (a ∷ r) q = absurd (omega (arith, ap length q, length-append z.done (a ∷ r), z.many))

    pub laying_next : {n : NextSpan} → k < count → Steps s L w (Some n) → let x = n.span in
        Laying s L from count before (set (set (set after (k * 3) x.first) (k * 3 + 1) x.last) (k * 3 + 2) x.marks) n.left (k + 1)
    laying_next {n} h f =
        record {
          within = omega arith;
          room = y.room;
          size = simp length-set y.size;
          laid = λ l a e.
              let z = y.laid l a e in
              let m = z.many in
              let u = f.yields z.others z.left in
              record {
                done = z.done ++ (span_is n.span ∷ []);
                others = u.0;
                all = z.all ∙ ap (λ (r : List Span). z.done ++ r) u.1 ∙ sym (append_assoc z.done (span_is n.span ∷ []) u.0);
                many = omega (arith, length-append z.done (span_is n.span ∷ []), m);
                left = u.2;
                holds = rw (z.holds, ← m) (sets_span z.done (span_is n.span) before);
              };
        }

-- ---- the answers

module _ {s : List ℕ} {L n : ℕ} (h : CountsSpans s n) (out : List ℕ) where
  pub spans_short : length out / 3 < n → Answers s L out None out
  spans_short l = record { says = λ t x right. (refl, omega (arith, h t x, triples_size (spans t))) }

  pub spans_are : {r : Started} {after : List ℕ} → n ≤ length out / 3 → Starts s r → PutsSpans s L r.walk n out after
      → Answers s L out (Some (record { operator = r.operator; count = n })) after
  spans_are l st p =
      record {
        says = λ t x right.
            (st.operator t x, h t x, omega (arith, h t x, triples_size (spans t)), p (spans t) (st.walk L t x right) (sym (h t x)));
      }

-- ---- two answers that are allowed are equal

abbrev operator_from : Location → Option Operator
operator_from (one m) = None
operator_from (many c join l) = Some Join
operator_from (many c order l) = Some Order

code_is : (o : Option Operator) (t : Location) → operator_code o ≡ operator_number t → o ≡ operator_from t
code_is None (one m) e = refl
code_is (Some Join) (many c join l) e = refl
code_is (Some Order) (many c order l) e = refl
code_is None (many c join l) e = absurd (omega (arith, e))
code_is None (many c order l) e = absurd (omega (arith, e))
code_is (Some Join) (one m) e = absurd (omega (arith, e))
code_is (Some Join) (many c order l) e = absurd (omega (arith, e))
code_is (Some Order) (one m) e = absurd (omega (arith, e))
code_is (Some Order) (many c join l) e = absurd (omega (arith, e))

module _ (t : Location) (out : List ℕ) where
  abbrev answer_of : Option WrittenSpans × List ℕ
  answer_of =
      cond (ltb (length out) (length (triples (spans t)))) (None, out)
      (Some (record { operator = operator_from t; count = length (spans t) }), front (triples (spans t)) out)

  pub is_answer : (r : Option WrittenSpans) (after : List ℕ) → AnswerSays t out r after → ◌≡◌ {A = Option WrittenSpans × List ℕ} (r, after) answer_of
  is_answer None after h = (λ i. (None, h.0 i)) ∙ sym (rw (lt-ltb (length out) (length (triples (spans t))) h.1))
  is_answer (Some x) after h =
      let o = code_is x.operator t h.0 in
      (λ i. (Some (record { operator = o i; count = h.1 i }), h.3 i)) ∙ sym (rw (le-ltb (length out) (length (triples (spans t))) h.2))
