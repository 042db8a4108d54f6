-- What is handed over is what the answer says: its numbers are small, so each stays as it is.
use Prim.Native.Nat.{ℕ, ◌≤◌}
use native.Mathlib.Omega.{arith}
use mathlib.Core.Path.{◌≡◌, refl, sym, subst}
use mathlib.Core.Bool.{Bool, false}
use mathlib.Core.List.{List}
use Rattle.std.specs.Prelude.{Option, Some, None, is_some, unwrap_or}
use Rattle.paper.specs.Answers.{Verdict, CheckSays, Part, no_part, nothing_shown, FeatureShown, NoSequence, NoFeature, NoQualifier, NothingWritten}
use Rattle.paper.specs.Index.{IndexCheckSays}
use Rattle.paper.specs.Demands.{InListing, AnswerOrRefusal}
use Rattle.ask_answers.specs.Stretches.{SequenceAnswer, FeatureAnswer, QualifierAnswer, LentAnswer, IndexVerdict, no_stretch, value_is}
use Rattle.ask_answers.specs.Given.{SequenceGivenBy, FeatureGivenBy, QualifierGivenBy, LentGivenBy}
use Rattle.ask_answers.specs.Handed.{Narrow, HandsRefusal, HandsVerdict, HandsSequence, HandsFeature, HandsQualifier, HandsLent, HandsIndexVerdict}
use Rattle.ask_answers.specs.declared.Stretch.{Stretch}
use Rattle.ask_index.specs.Takes.{TakesIndex}
use Rattle.ask_index.proofs.Made.{index_belongs}
use Rattle.dreichnook.specs.Numbers.{part, feature_shown, SaysCheck, SaysQualifierBy}
use Rattle.paper.proofs.Demands.{demand1}
use Rattle.paper.proofs.Refusals.{refusal_most, ends_most}

stays : {n r : ℕ} → Narrow n r → n ≤ 99 → n ≡ r
stays h l = sym (h.says (omega (arith, l)))

module _ {w : List ℕ} where
  pub check_handed : {v : Verdict} {n p t s f j u : ℕ} → CheckSays w v → HandsVerdict v n p t s f j u
      → SaysCheck w (record { number = n; place = p; total = t; skipped = s; features = f; judged = j; unjudged = u })
  check_handed {v} x HandsVerdict.accepted = record { verdict = v; says = x; is = refl }
  check_handed {v} x (HandsVerdict.refused {q = q} (HandsRefusal.refusal h)) =
      let e = stays h (refusal_most (demand1.check w _ x)) in
      record { verdict = v; says = x; is = λ i. record { number = sym e i; place = q.place; total = 0; skipped = 0; features = 0; judged = 0; unjudged = 0 } }

  pub index_check_handed : {x : List ℕ} {a : IndexVerdict} {n p : ℕ} → TakesIndex w x a → HandsIndexVerdict a n p → IndexCheckSays w x n p
  index_check_handed y HandsIndexVerdict.belongs = index_belongs y
  index_check_handed {x} y (HandsIndexVerdict.refused {q = q} (HandsRefusal.refusal h)) =
      let z = IndexCheckSays.refused y in
      subst (λ (n : ℕ). IndexCheckSays w x n q.place) (stays h (ends_most (demand1.index_check w x _ _ z))) z

-- ---- `Says` is what the paper says of the call, with an index or without

module _ (w : List ℕ) (Says : (number place kind : ℕ) (residues : Part) → Type 0) (ends : (n p d : ℕ) (r : Part) → Says n p d r → AnswerOrRefusal n p (NoSequence d r))
    (inside : (n p d : ℕ) (r : Part) → Says n p d r → InListing w r) where
  pub sequence_handed : {a : SequenceAnswer} {n p d s z : ℕ} → SequenceGivenBy Says w a → HandsSequence a n p d s z
      → Says n p d (part s z) × InListing w (part s z)
  sequence_handed x HandsSequence.sequence = (x.0, inside _ _ _ _ x.0)
  sequence_handed x (HandsSequence.refused {q = q} (HandsRefusal.refusal h)) = (
    subst (λ (n : ℕ). Says n q.place 0 no_part) (stays h (ends_most (ends _ _ _ _ x.1))) x.1,
    inside _ _ _ _ x.1,
  )

module _ (w out : List ℕ) (Says : (number place : ℕ) → FeatureShown → (after : List ℕ) → Type 0)
    (ends : (n p : ℕ) (x : FeatureShown) (after : List ℕ) → Says n p x after → AnswerOrRefusal n p (NoFeature x out after))
    (inside : (n p : ℕ) (x : FeatureShown) (after : List ℕ) → Says n p x after → InListing w x.key × InListing w x.location) where
  pub feature_handed : {after : List ℕ} {a : FeatureAnswer} {n p s z t y o c : ℕ} → FeatureGivenBy Says w a after → HandsFeature a n p s z t y o c
      → Says n p (feature_shown s z t y o c) after × (InListing w (part s z) × InListing w (part t y))
  feature_handed {after} x HandsFeature.feature = (x.0, inside _ _ _ after x.0)
  feature_handed {after} x (HandsFeature.refused {q = q} (HandsRefusal.refusal h)) = (
    subst (λ (n : ℕ). Says n q.place nothing_shown after) (stays h (ends_most (ends _ _ _ after x.1))) x.1,
    inside _ _ _ after x.1,
  )

-- a value's part, also if there is none
value_part_is : (v : Option Stretch) → value_is v ≡ part (unwrap_or v no_stretch).start (unwrap_or v no_stretch).size
value_part_is None = refl
value_part_is (Some x) = refl

module _ (w : List ℕ) (Says : (number place : ℕ) (name : Part) (present : Bool) (value : Part) → Type 0)
    (ends : (n p : ℕ) (a v : Part) (b : Bool) → Says n p a b v → AnswerOrRefusal n p (NoQualifier a b v))
    (inside : (n p : ℕ) (a v : Part) (b : Bool) → Says n p a b v → InListing w a × InListing w v) where
  pub qualifier_handed : {a : QualifierAnswer} {n p s z f t y : ℕ} → QualifierGivenBy Says w a
      → HandsQualifier a n p s z f t y → SaysQualifierBy Says w (record { number = n; place = p; name = part s z; flag = f; value = part t y })
  qualifier_handed x (HandsQualifier.qualifier {x = v}) =
      let says = subst (Says 0 0 _ _) (value_part_is v.value) x.0 in
      record { present = is_some v.value; flagged = refl; says = says; inside = inside _ _ _ _ _ says }
  qualifier_handed x (HandsQualifier.refused {q = q} (HandsRefusal.refusal h)) =
      record {
        present = false;
        flagged = refl;
        says = subst (λ (n : ℕ). Says n q.place no_part false no_part) (stays h (ends_most (ends _ _ _ _ _ x.1))) x.1;
        inside = inside _ _ _ _ _ x.1;
      }

-- a translation, all of a sequence, an index
module _ {out : List ℕ} (Says : (number place size : ℕ) (after : List ℕ) → Type 0)
    (ends : (n p z : ℕ) (after : List ℕ) → Says n p z after → AnswerOrRefusal n p (NothingWritten z out after)) where
  pub lent_handed : {after : List ℕ} {a : LentAnswer} {n p c : ℕ} → LentGivenBy Says a after → HandsLent a n p c → Says n p c after
  lent_handed x HandsLent.lent = x
  lent_handed {after} x (HandsLent.refused {q = q} (HandsRefusal.refusal h)) =
      subst (λ (n : ℕ). Says n q.place 0 after) (stays h (ends_most (ends _ _ _ after x.1))) x.1
