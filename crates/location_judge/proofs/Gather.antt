-- The members of a join or order, one after another: what is known before each, and at each way that the list ends.
use Prim.Native.Nat.{ℕ, zero, suc, ◌+◌, ◌≤◌, ◌<◌}
use native.Mathlib.Omega.{arith}
use mathlib.Core.Path.{◌≡◌, refl, sym, ap, ◌∙◌, subst}
use mathlib.Core.Bool.{Bool, true, false, ◌||◌, or-false, or_assoc}
use mathlib.Core.Option.{none, some, none-ne-some}
use mathlib.Core.List.{List, [], ◌∷◌, ◌++◌, append_assoc}
use lib.ListN.{length, length-append}
use lib.Dec.{eqb}
use borrow.Author.Tests.{le-leb, lt-leb}
use Rattle.std.specs.Prelude.{None, Some}
use Rattle.paper.specs.Bytes.{bytes, raw}
use Rattle.paper.specs.Locations.{is_odd, is_wrong, Member, Operator, Location, one, many, any, operator_number}
use Rattle.paper.proofs.Locate.Model.{Got, then, member_of, step, members, gathered, gather, read}
use Rattle.paper.proofs.Locate.Rest.{ends_length}
use Rattle.paper.proofs.Locate.Reads.{read_sound, read_nil, read_ends, allowed_member}
use Rattle.read_bytes.specs.Words.{There}
use Rattle.location_judge.specs.Places.{RestIs, Stretch}
use Rattle.location_judge.specs.Judging.{AreFacts}
use Rattle.location_judge.specs.Readings.{Reads, OutSays, Outs, operator_of, number_of, Lists, with_member}
use Rattle.location_judge.specs.declared.judging.Facts.{Facts}
use Rattle.location_judge.specs.declared.judging.Located.{Located}
use Rattle.location_judge.specs.declared.operators.Opening.{Opening}
use Rattle.location_judge.proofs.Stand.{begun, not_begun, stretch_text, stretch_join}
use Rattle.location_judge.proofs.Words.{step_else}
use Rattle.location_judge.proofs.Levels.{operator_number_lem}

-- ---- facts of one member more

any_append : {A : Type 0} (f : A → Bool) (l k : List A) → (any f l || any f k) ≡ any f (l ++ k)
any_append f [] k = refl
any_append f (a ∷ l) k = or_assoc (f a) (any f l) (any f k) ∙ ap (λ (b : Bool). f a || b) (any_append f l k)

with_member_lem : {L : ℕ} (o : Operator) (ms : List Member) (m : Member) {f g : Facts} → AreFacts L (many false o ms) f → AreFacts L (one m) g
    → AreFacts L (many false o (ms ++ (m ∷ []))) (with_member f g)
with_member_lem {L} o ms m {f} {g} h k =
    let more = ms ++ (m ∷ []) in
    let n : operator_number (many false o ms) ≡ operator_number (many false o more) = operator_number_lem false o ms ∙ sym (operator_number_lem false o more) in
    let odd : Member → Bool = λ m. is_odd m.piece in
    record {
      wrong = (λ i. h.wrong i || k.wrong i) ∙ any_append (λ (m : Member). is_wrong L m.piece) ms (m ∷ []);
      complemented = (λ i. h.complemented i || (k.complemented ∙ sym (or-false m.complemented)) i)
          ∙ any_append (λ (m : Member). m.complemented) ms (m ∷ []);
      unjudged = (λ i. h.unjudged i || k.unjudged i) ∙ or_assoc (eqb (operator_number (many false o ms)) 2) (any odd ms) (any odd (m ∷ []))
          ∙ (λ i. eqb (n i) 2 || any_append odd ms (m ∷ []) i);
    }

-- the facts of no member yet
abbrev pub no_facts : Operator → Facts
no_facts o = record { wrong = false; complemented = false; unjudged = eqb (number_of o) 2 }

no_facts_lem : {L : ℕ} (o : Operator) → AreFacts L (many false o []) (no_facts o)
no_facts_lem o = record { wrong = refl; complemented = refl; unjudged = sym (or-false (eqb (number_of o) 2)) }

-- ---- the members so far

abbrev prepend : List Member → Got (List Member) → Got (List Member)
prepend ms g = then g (λ l z. some (ms ++ l, z))

prepend_nil : (g : Got (List Member)) → g ≡ prepend [] g
prepend_nil none = refl
prepend_nil (some p) = refl

prepend_more : (ms : List Member) (m : Member) (g : Got (List Member))
    → prepend ms (then g (λ l z. some (m ∷ l, z))) ≡ prepend (ms ++ (m ∷ [])) g
prepend_more ms m none = refl
prepend_more ms m (some p) = ap (λ (l : List Member). some (l, p.1)) (sym (append_assoc ms (m ∷ []) p.0))

-- of the text w the members ms are read, whose facts are f, and the model reads on at i: where i is still `from` there are none, else some
record Going (s : List ℕ) (L d : ℕ) (c : Bool) (o : Operator) (w : List ℕ) (from i : ℕ) (f : Facts) : Type 0 where
  ms : List Member
  few : from + length ms ≤ i
  later : from < i → 1 ≤ length ms
  fuel : ℕ
  rest : List ℕ
  stands : RestIs s i rest
  enough : length rest ≤ fuel
  facts : AreFacts L (many false o ms) f
  is : members (read d c false) (length w) w ≡ prepend ms (members (read d c false) fuel rest)

-- then m is read, with the facts g, and n is behind it
record Past (s : List ℕ) (L d : ℕ) (c : Bool) (o : Operator) (w : List ℕ) (from i n : ℕ) (f g : Facts) : Type 0 where
  going : Going s L d c o w from i f
  m : Member
  fuel : ℕ
  rest : List ℕ
  stands : RestIs s n rest
  enough : length rest ≤ suc fuel
  facts : AreFacts L (many false o (going.ms ++ (m ∷ []))) (with_member f g)
  is : members (read d c false) (length w) w ≡ prepend going.ms (step (members (read d c false) fuel) (one m) rest)

-- the loop's invariant: i is where a member is to be read
pub record Run (s : List ℕ) (L d : ℕ) (c : Bool) (at from : ℕ) (o : Operator) (i : ℕ) (f : Facts) : Type 0 where
  pub passed : Stretch s at i
  going : (w : List ℕ) → RestIs s from w → Going s L d c o w from i f

empty : (w : List ℕ) → length w ≤ 0 → w ≡ []
empty [] h = refl
empty (b ∷ w) h = absurd (omega arith)

module _ {s : List ℕ} {L d : ℕ} {c : Bool} where
  pub run_start : {at : ℕ} {x : Opening} → let o = operator_of x.operator in Lists s at (Some x) → Run s L d c at x.first o x.first (no_facts o)
  run_start {at} {x} h =
      record {
        passed = h.within.1;
        going = λ w st.
            record {
              ms = [];
              few = omega arith;
              later = λ l. absurd (omega arith);
              fuel = length w;
              rest = w;
              stands = st;
              enough = omega arith;
              facts = no_facts_lem (operator_of x.operator);
              is = prepend_nil (members (read d c false) (length w) w);
            };
      }

  module _ {at from i : ℕ} {o : Operator} {f : Facts} (run : Run s L d c at from o i f) where
    pub run_bad : Outs s i L (read d c false) None
        → (w : List ℕ) → RestIs s from w → gather (read d c false) o w ≡ none
    run_bad h w st =
        let k = run.going w st in
        let n : members (read d c false) k.fuel k.rest ≡ none = go k.rest k.fuel (h.says k.rest k.stands) in
        ap (λ (g : Got (List Member)). then g (gathered o)) (k.is ∙ ap (prepend k.ms) n)
      where
        go : (z : List ℕ) (n : ℕ) → read d c false z ≡ none → members (read d c false) n z ≡ none
        go z zero q = refl
        go z (suc n) q = rw q

    module _ {x : Located} (h : Outs s i L (read d c false) (Some x)) where
      past : (w : List ℕ) → RestIs s from w → Past s L d c o w from i x.end f x.facts
      past w st =
          let k = run.going w st in
          let m = h.says k.rest k.stands in
          go k.fuel k m refl
        where
          go : (fuel : ℕ) (k : Going s L d c o w from i f) (m : Reads s (λ (t : Location). AreFacts L t x.facts) (read d c false k.rest) x.end) → k.fuel ≡ fuel
              → Past s L d c o w from i x.end f x.facts
          go zero k m q =
              let z = empty k.rest (omega (arith, k.enough)) in
              absurd (none-ne-some (m.value, m.rest) (sym (read_nil d c false) ∙ sym (ap (read d c false) z) ∙ m.is))
          go (suc fuel) k m q =
              let single = allowed_member c m.value ((read_sound d c false k.rest).holds m.value m.rest m.is).0 in
              let last = member_of m.value in
              let next : members (read d c false) (suc fuel) k.rest ≡ step (members (read d c false) fuel) (one last) m.rest
              = ap (λ (y : Got Location). then y (step (members (read d c false) fuel))) m.is
              ∙ ap (λ (t : Location). step (members (read d c false) fuel) t m.rest) single in
              record {
                going = k;
                m = last;
                fuel = fuel;
                rest = m.rest;
                stands = m.stands;
                enough = omega (arith, k.enough, ends_length (read_ends d c false k.rest m.rest m.value m.is));
                facts = with_member_lem o k.ms last k.facts (subst (λ (t : Location). AreFacts L t x.facts) single m.holds);
                is = k.is ∙ ap (λ (y : ℕ). prepend k.ms (members (read d c false) y k.rest)) q ∙ ap (prepend k.ms) next;
              }

      -- the members so far, this one and what stands behind it
      pub passed_by : (u : List ℕ) {t : Bool} → There (raw u) s x.end t → t ≡ true → Stretch s at (x.end + length (raw u))
      passed_by u word e = stretch_join run.passed (stretch_join h.within (stretch_text u word e))

      module _ {t : Bool} (bracket : There (raw (bytes ")")) s x.end t) where
        -- the list ends, behind one member more than those before i
        closed : t ≡ true → (w : List ℕ) → RestIs s from w
            → (k : Going s L d c o w from i f) × (ms : List Member) × (length ms ≡ length k.ms + 1) × (z : List ℕ) × RestIs s (x.end + 1) z
            × AreFacts L (many false o ms) (with_member f x.facts) × (gather (read d c false) o w ≡ gathered o ms z)
        closed b w st =
            let p = past w st in
            let k = p.going in
            let q = begun (bytes ")") bracket p.stands b in (
              k,
              k.ms ++ (p.m ∷ []),
              length-append k.ms (p.m ∷ []),
              q.0,
              q.2,
              p.facts,
              ap (λ (y : Got (List Member)). then y (gathered o))
                  (p.is ∙ ap (λ (z : List ℕ). prepend k.ms (step (members (read d c false) p.fuel) (one p.m) z)) q.1),
            )

        pub run_one : t ≡ true → i ≤ from → (w : List ℕ) → RestIs s from w → gather (read d c false) o w ≡ none
        run_one b l w st =
            let (k, ms, n, _, _, _, q) = closed b w st in
            q ∙ rw (lt-leb 2 (length ms) (omega (arith, k.few)))

        pub run_closed : t ≡ true → ¬ (i ≡ from) → (w : List ℕ) → RestIs s from w
            → OutSays s L (gather (read d c false) o w) (Some (record { end = x.end + 1; facts = with_member f x.facts }))
        run_closed b l w st =
            let (k, ms, n, z, there, facts, q) = closed b w st in
            let two = le-leb 2 (length ms) (omega (arith, k.later (omega (arith, k.few)))) in
            record { value = many false o ms; rest = z; is = q ∙ rw two; stands = there; holds = facts }

        module _ {u : Bool} (comma : There (raw (bytes ",")) s x.end u) where
          pub run_other : t ≡ false → u ≡ false
              → (w : List ℕ) → RestIs s from w → gather (read d c false) o w ≡ none
          run_other a b w st =
              let p = past w st in
              ap (λ (y : Got (List Member)). then y (gathered o))
              (p.is ∙ ap (prepend p.going.ms)
              (step_else (members (read d c false) p.fuel) (one p.m) p.rest
              (not_begun (bytes ")") bracket p.stands a) (not_begun (bytes ",") comma p.stands b)))

          pub run_next : u ≡ true → Run s L d c at from o (x.end + 1) (with_member f x.facts)
          run_next b =
              record {
                passed = passed_by (bytes ",") comma b;
                going = λ w st.
                    let p = past w st in
                    let ms = p.going.ms in
                    let n = length-append ms (p.m ∷ []) in
                    let q = begun (bytes ",") comma p.stands b in
                    record {
                      ms = ms ++ (p.m ∷ []);
                      few = omega (arith, p.going.few, h.within.onward);
                      later = λ l. omega arith;
                      fuel = p.fuel;
                      rest = q.0;
                      stands = q.2;
                      enough = omega (arith, p.enough, ap length q.1);
                      facts = p.facts;
                      is = p.is ∙ ap (λ (z : List ℕ). prepend ms (step (members (read d c false) p.fuel) (one p.m) z)) q.1
                          ∙ prepend_more ms p.m (members (read d c false) p.fuel q.0);
                    };
              }
