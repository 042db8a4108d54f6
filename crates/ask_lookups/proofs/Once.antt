-- One answer only: two results that a call's promise allows are equal, the parts that are shown by their bytes and where they stand.
use Prim.Native.Nat.{ℕ}
use mathlib.Core.Path.{◌≡◌}
use mathlib.Core.Bool.{Bool}
use mathlib.Core.List.{List}
use Rattle.std.specs.Prelude.{Result}
use Rattle.paper.specs.declared.Refused.{Refused}
use Rattle.paper.specs.Answers.{Part, FeatureShown, SequenceSays, FeatureSays, QualifierSays, TranslationSays, TranslationsSays}
use Rattle.paper.proofs.Once as once
use Rattle.read_layout.proofs.Wholes.{laid_once}
use Rattle.ask_answers.specs.Stretches.{SequenceAnswer, FeatureAnswer, QualifierAnswer, LentAnswer}
use Rattle.ask_answers.specs.Given.{SequenceGiven, FeatureGiven, QualifierGiven, TranslationGiven, TranslationsGiven}
use Rattle.ask_answers.proofs.Once as given
use Rattle.ask_show.specs.declared.Sequence.{Sequence}
use Rattle.ask_show.specs.declared.Feature.{Feature}
use Rattle.ask_show.specs.declared.Qualifier.{Qualifier}
use Rattle.ask_show.proofs.Views as views
use Rattle.ask_lookups.specs.Shows.{ShowsSequence, ShowsFeature, ShowsQualifier}

-- ---- the numbers and the places

module _ {w : List ℕ} {k : ℕ} where
  pub sequence_once : {n p d m q e : ℕ} {x y : Part} → SequenceSays w k n p d x → SequenceSays w k m q e y → (n ≡ m) × (p ≡ q) × (d ≡ e) × (x ≡ y)
  sequence_once = once.sequence_once laid_once

  pub qualifier_once : {j i n p m q : ℕ} {x v y u : Part} {a b : Bool} → QualifierSays w k j i n p x a v → QualifierSays w k j i m q y b u
      → (n ≡ m) × (p ≡ q) × (x ≡ y) × (a ≡ b) × (v ≡ u)
  qualifier_once = once.qualifier_once laid_once

  -- ---- lent output: what is in it afterwards too

  pub feature_once : {j : ℕ} {out : List ℕ} {n p m q : ℕ} {x y : FeatureShown} {a b : List ℕ} → FeatureSays w k j out n p x a → FeatureSays w k j out m q y b
      → (n ≡ m) × (p ≡ q) × (x ≡ y) × (a ≡ b)
  feature_once = once.feature_once laid_once

  pub translation_once : {j : ℕ} {out : List ℕ} {n p z m q r : ℕ} {x y : List ℕ} → TranslationSays w k j out n p z x → TranslationSays w k j out m q r y
      → (n ≡ m) × (p ≡ q) × (z ≡ r) × (x ≡ y)
  translation_once = once.translation_once laid_once

  pub translations_once : {out : List ℕ} {n p z m q r : ℕ} {x y : List ℕ} → TranslationsSays w k out n p z x → TranslationsSays w k out m q r y
      → (n ≡ m) × (p ≡ q) × (z ≡ r) × (x ≡ y)
  translations_once = once.translations_once laid_once

-- ---- the answers themselves

module _ (w : List ℕ) (k : ℕ) where
  pub sequence_given_once : (x y : SequenceAnswer) → SequenceGiven w k x → SequenceGiven w k y → x ≡ y
  sequence_given_once = given.sequence_given_once w (SequenceSays w k) (λ n p d m q e x y. sequence_once)

  pub qualifier_given_once : (j i : ℕ) (x y : QualifierAnswer) → QualifierGiven w k j i x → QualifierGiven w k j i y → x ≡ y
  qualifier_given_once j i = given.qualifier_given_once w (QualifierSays w k j i) (λ n p m q x v y u a b. qualifier_once)

  pub feature_given_once : (j : ℕ) (out : List ℕ) (x y : FeatureAnswer) (a b : List ℕ) → FeatureGiven w k j out x a → FeatureGiven w k j out y b → (x ≡ y) × (a ≡ b)
  feature_given_once j out = given.feature_given_once w (FeatureSays w k j out) (λ n p m q x y a b. feature_once)

  pub translation_given_once : (j : ℕ) (out : List ℕ) (x y : LentAnswer) (a b : List ℕ) → TranslationGiven w k j out x a → TranslationGiven w k j out y b
      → (x ≡ y) × (a ≡ b)
  translation_given_once j out = given.lent_given_once (TranslationSays w k j out) (λ n p z m q r a b. translation_once)

  pub translations_given_once : (out : List ℕ) (x y : LentAnswer) (a b : List ℕ) → TranslationsGiven w k out x a → TranslationsGiven w k out y b
      → (x ≡ y) × (a ≡ b)
  translations_given_once out = given.lent_given_once (TranslationsSays w k out) (λ n p z m q r a b. translations_once)

-- ---- parts of the lent listing, which stands at `at`

module _ (w : List ℕ) (at : ℕ × ℕ) where
  pub shows_sequence_once : (k : ℕ) (x y : Sequence) → ShowsSequence w at k x → ShowsSequence w at k y → x ≡ y
  shows_sequence_once k = views.shows_sequence_once w at (SequenceSays w k) (λ n p d m q e x y. sequence_once)

  pub shows_feature_once : (k j : ℕ) (out : List ℕ) (x y : Result Feature Refused) (a b : List ℕ) → ShowsFeature w at k j out x a
      → ShowsFeature w at k j out y b → (x ≡ y) × (a ≡ b)
  shows_feature_once k j out = views.shows_feature_once w at (FeatureSays w k j out) (λ n p m q x y a b. feature_once)

  pub shows_qualifier_once : (k j i : ℕ) (x y : Result Qualifier Refused) → ShowsQualifier w at k j i x → ShowsQualifier w at k j i y → x ≡ y
  shows_qualifier_once k j i = views.shows_qualifier_once w at (QualifierSays w k j i) (λ n p m q x v y u a b. qualifier_once)
