-- Sequences added up, one by one.
use Prim.Native.Nat.{ℕ, suc, ◌+◌, ◌≤◌, ◌<◌}
use native.Mathlib.Omega.{arith}
use mathlib.Core.Path.{◌≡◌, refl, sym, ap, ◌∙◌, subst}
use mathlib.Core.Bool.{Bool, true, false}
use mathlib.Core.List.{List, [], ◌∷◌, ◌++◌, map, append_assoc, append-nil}
use lib.ListN.{length, length-append}
use Rattle.paper.specs.Bytes.{bytes, is_blank}
use Rattle.paper.specs.Lists.{Count, end, has, lacks}
use Rattle.paper.specs.Layout.{child, sequence}
use Rattle.paper.specs.Tree.{Sequence, Feature, features_of}
use Rattle.paper.specs.Rules.{Skipped, InSequence}
use Rattle.paper.specs.Answers.{limit, JudgedCds, UnjudgedCds}
use Rattle.paper.proofs.Lists.{count_map, length-map}
use Rattle.read_steps.specs.Follow.{Not, closing}
use Rattle.walk_steps.specs.Stands.{Over, TellsChild}
use Rattle.walk_items.proofs.Sequences.{sequence_leads}
use Rattle.value_words.specs.Reading.{Tells}
use Rattle.judge_faults.specs.Sets.{Firsts, InSome}
use Rattle.judge_faults.proofs.Faults.{some_none, some_more, nth_front, nth_last}
use Rattle.judge_faults.proofs.Seen.{Seen, seen_none, seen_next, seen_stuck, seen_all, count_has, count_lacks}
use Rattle.judge_features.specs.Featured.{CountedIn, JudgedIn, UnjudgedIn}
use Rattle.judge_features.specs.declared.FeatureCounts.{FeatureCounts}
use Rattle.judge_sequences.specs.Sequences.{nothing_yet, Plus, one_if, Adds, IsOne, JudgesSequence, every, CountedAll, Totalled, JudgesSequences}
use Rattle.judge_sequences.specs.declared.One.{One}
use Rattle.judge_sequences.specs.declared.Total.{Total}

-- ---- counts of every feature

count_append : {A : Type 0} {C : A → Type 0} {l k : List A} {n m : ℕ} → Count C l n → Count C k m → Count C (l ++ k) (n + m)
count_append {C = C} {k = k} {m = m} end d = subst (Count C k) (omega arith) d
count_append {C = C} {m = m} (has {a = a} {l = l} {n = n} c r) d = subst (Count C ((a ∷ l) ++ _)) (omega arith) (has c (count_append r d))
count_append (lacks c r) d = lacks c (count_append r d)

-- the features of one sequence, with it
abbrev own : Sequence ℕ → List (Sequence ℕ × Feature ℕ)
own q = map {A = Feature ℕ} {B = Sequence ℕ × Feature ℕ} (λ f. (q, f)) (features_of q)

every_more : (l : List (Sequence ℕ)) (q : Sequence ℕ) → every (l ++ (q ∷ [])) ≡ every l ++ own q
every_more [] q = append-nil (own q)
every_more (x ∷ l) q = ap (λ (k : List (Sequence ℕ × Feature ℕ)). own x ++ k) (every_more l q) ∙ sym (append_assoc (own x) (every l) (own q))

all_more : (l : List (Sequence ℕ)) (q : Sequence ℕ) {f j u f'' j'' u'' : ℕ} {x : FeatureCounts} → CountedAll l f j u → CountedIn q (features_of q) x → f'' ≡ f + x.features → j'' ≡ j + x.judged → u'' ≡ u + x.unjudged
    → CountedAll (l ++ (q ∷ [])) f'' j'' u''
all_more l q {f} {j} {u} {f''} {j''} {u''} {x} c d ef ej eu =
    let P = Sequence ℕ × Feature ℕ in
    let pair : Feature ℕ → P = λ g. (q, g) in
    let oj : Count JudgedCds (own q) x.judged = count_map pair (JudgedIn q) JudgedCds (λ g h. h) (λ g h. h) d.judged in
    let ou : Count UnjudgedCds (own q) x.unjudged = count_map pair (UnjudgedIn q) UnjudgedCds (λ g h. h) (λ g h. h) d.unjudged in
    record {
      features_are = omega (arith, ef, c.features_are, d.features, length-append (every l) (own q), length-map pair (features_of q), ap length (every_more l q));
      judged_are = subst (λ (k : List P). Count JudgedCds k j'') (sym (every_more l q)) (subst (Count JudgedCds (every l ++ own q)) (sym ej) (count_append c.judged_are oj));
      unjudged_are = subst (λ (k : List P). Count UnjudgedCds k u'') (sym (every_more l q)) (subst (Count UnjudgedCds (every l ++ own q)) (sym eu) (count_append c.unjudged_are ou));
    }

-- ---- one sequence more

pub total_none : Totalled [] nothing_yet
total_none =
    record {
      fault = some_none InSequence;
      total = refl;
      skipped = end;
      skipped_below = omega arith;
      counted = λ clean. record { features_are = refl; judged_are = end; unjudged_are = end };
      features_below = omega arith;
      judged_below = omega arith;
      unjudged_below = omega arith;
    }

skipped_more : (l : List (Sequence ℕ)) (q : Sequence ℕ) (b : Bool) {n m : ℕ} → Tells b (Skipped q) → Count Skipped l n → m ≡ n + one_if b → Count Skipped (l ++ (q ∷ [])) m
skipped_more l q true {n} {m} t c e = subst (Count Skipped (l ++ (q ∷ []))) (omega (arith, e)) (count_has Skipped l q c t)
skipped_more l q false {n} {m} t c e = subst (Count Skipped (l ++ (q ∷ []))) (omega (arith, e)) (count_lacks Skipped l q c t)

one_below : (b : Bool) → one_if b ≤ 1
one_below true = omega arith
one_below false = omega arith

-- what is broken in a beginning is broken in the whole
some_front : (l : List (Sequence ℕ)) (q : Sequence ℕ) (n p : ℕ) → InSome InSequence l n p → InSome InSequence (l ++ (q ∷ [])) n p
some_front l q n p x = (x.0, x.1, (x.2.0, x.2.1, nth_front l (q ∷ []) x.2.0 x.1 x.2.2), x.3)

some_last : (l : List (Sequence ℕ)) (q : Sequence ℕ) (n p : ℕ) → InSequence (suc (length l)) q n p → InSome InSequence (l ++ (q ∷ [])) n p
some_last l q n p x = (suc (length l), q, (length l, refl, nth_last l q), x)

pub total_more : (l : List (Sequence ℕ)) (q : Sequence ℕ) {e k : ℕ} {a r : Total} {x : One} → Adds a x r → k ≡ a.figures.total + 1 → IsOne k q e x → Totalled l a
    → a.figures.total ≤ limit → x.counts.features ≤ limit → x.counts.judged ≤ limit → x.counts.unjudged ≤ limit → Totalled (l ++ (q ∷ [])) r
total_more l q {k = k} {a} {r} {x} ad ek y t bt bf bj bu =
    let et = ad.total.is (omega (arith, bt)) in
    let es = ad.skipped.is (omega (arith, bt, t.skipped_below, one_below x.skipped)) in
    let ef = ad.features.is (omega (arith, bt, bf, t.features_below)) in
    let ej = ad.judged.is (omega (arith, bt, bj, t.judged_below)) in
    let eu = ad.unjudged.is (omega (arith, bt, bu, t.unjudged_below)) in
    let number : k ≡ suc (length l) = omega (arith, ek, t.total) in
    let own-fault = subst (λ (i : ℕ). Firsts (InSequence i q) x.fault) number y.fault in
    record {
      fault = some_more InSequence l q t.fault own-fault ad.fault;
      total = omega (arith, et, t.total, length-append l (q ∷ []));
      skipped = skipped_more l q x.skipped y.skipped t.skipped es;
      skipped_below = omega (arith, et, es, t.skipped_below, one_below x.skipped);
      counted =
          λ clean.
          all_more l q (t.counted (λ n p h. clean n p (some_front l q n p h)))
          (y.counted (λ n p h. clean n p (some_last l q n p (subst (λ (i : ℕ). InSequence i q n p) number h)))) ef ej eu;
      features_below = omega (arith, et, ef, bf, t.features_below);
      judged_below = omega (arith, et, ej, bj, t.judged_below);
      unjudged_below = omega (arith, et, eu, bu, t.unjudged_below);
    }

-- ---- the loop

-- what has been seen of the sequences is added up
pub record Adding (s : List ℕ) (first at : ℕ) (a : Total) : Type 0 where
  pub seen : length s ≤ limit → Seen (child sequence) closing s first at (λ (l : List (Sequence ℕ)). Totalled l a)
  pub below : length s ≤ limit → a.figures.total ≤ at

pub adding_none : {s : List ℕ} {first : ℕ} {a : Total} → a ≡ nothing_yet → Adding s first first a
adding_none {s} {first} e =
    rw e (record {
      seen = λ short. seen_none (child sequence) closing first (λ (l : List (Sequence ℕ)). Totalled l nothing_yet) total_none;
      below = λ short. omega arith;
    })

judged_over : {s : List ℕ} {at k : ℕ} {x : One} → JudgesSequence s at k x → length s ≤ limit → Over (child sequence) (Not is_blank) s at x.next
judged_over j short = record { is = λ q e d fol. (j.says q e short d fol).next }

module _ {s : List ℕ} {first at k : ℕ} {a : Total} {x : One} {t : Bool} (h : t ≡ true) (here : TellsChild s at t) (w : Adding s first at a)
    (j : JudgesSequence s at k x) where
  pub adding_more : {r : Total} → at < length s → at < x.next → Plus a.figures.total 1 k → Adds a x r → Adding s first x.next r
  adding_more {r} inside onward pk ad =
      record {
        seen =
            λ short.
            let bt = w.below short in
            let ek = pk.is (omega (arith, bt, inside, short)) in
            seen_next (bytes "SequenceData") (child sequence) sequence_leads closing (record { clash = refl; sharps = refl })
            (λ (l : List (Sequence ℕ)). Totalled l a) (λ (l : List (Sequence ℕ)). Totalled l r) h (here.tells (bytes "SequenceData") refl) (w.seen short) (judged_over j short)
            (λ done q e d fol y. total_more done q ad ek (j.says q e short d fol) y (omega (arith, bt, inside, short)) (omega (arith, j.below.features, short)) (omega (arith, j.below.judged, short))
            (omega (arith, j.below.unjudged, short)));
        below = λ short. omega (arith, onward, w.below short, ad.total.is (omega (arith, w.below short, inside, short)));
      }

  pub adding_stuck : x.next ≤ at → JudgesSequences s first a
  adding_stuck stuck =
      record {
        says =
            λ short l e d fol.
            absurd
            (seen_stuck (bytes "SequenceData") (child sequence) sequence_leads closing (record { clash = refl; sharps = refl }) (λ (l : List (Sequence ℕ)). Totalled l a) h (here.tells (bytes "SequenceData") refl) (w.seen short)
            (judged_over j short) stuck l e d fol);
      }

pub adding_done : {s : List ℕ} {first at : ℕ} {a : Total} {t : Bool} → t ≡ false → TellsChild s at t → Adding s first at a → JudgesSequences s first a
adding_done {a = a} h here w =
    record {
      says =
          λ short l e d fol.
          (seen_all (bytes "SequenceData") (child sequence) sequence_leads closing (record { clash = refl; sharps = refl }) (λ (l : List (Sequence ℕ)). Totalled l a) h (here.tells (bytes "SequenceData") refl) (w.seen short) l e d fol).0;
    }
