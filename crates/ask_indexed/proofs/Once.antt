-- One answer only: two results that a call's promise allows are equal, the parts that are shown by their bytes and where they stand.
use Prim.Native.Nat.{ℕ}
use mathlib.Core.Path.{◌≡◌}
use mathlib.Core.Bool.{Bool}
use mathlib.Core.List.{List}
use Rattle.std.specs.Prelude.{Result}
use Rattle.paper.specs.declared.Refused.{Refused}
use Rattle.paper.specs.Answers.{Part, FeatureShown}
use Rattle.paper.specs.Index.{IndexedSequenceSays, IndexedFeatureSays, IndexedQualifierSays, IndexedTranslationSays, IndexedTranslationsSays}
use Rattle.paper.proofs.Once as once
use Rattle.read_layout.proofs.Wholes.{laid_once}
use Rattle.ask_answers.specs.Stretches.{SequenceAnswer, FeatureAnswer, QualifierAnswer, LentAnswer}
use Rattle.ask_answers.specs.Given.{IndexedSequenceGiven, IndexedFeatureGiven, IndexedQualifierGiven, IndexedTranslationGiven, IndexedTranslationsGiven}
use Rattle.ask_answers.proofs.Once as given
use Rattle.ask_show.specs.declared.Sequence.{Sequence}
use Rattle.ask_show.specs.declared.Feature.{Feature}
use Rattle.ask_show.specs.declared.Qualifier.{Qualifier}
use Rattle.ask_show.proofs.Views as views
use Rattle.ask_indexed.specs.Shows.{ShowsSequence, ShowsFeature, ShowsQualifier}

-- ---- the numbers and the places

module _ {w x : List ℕ} {k : ℕ} where
  pub sequence_once : {n p d m q e : ℕ} {r s : Part} → IndexedSequenceSays w x k n p d r → IndexedSequenceSays w x k m q e s → (n ≡ m) × (p ≡ q) × (d ≡ e) × (r ≡ s)
  sequence_once = once.indexed_sequence_once laid_once

  pub qualifier_once : {j i n p m q : ℕ} {a v c u : Part} {b d : Bool} → IndexedQualifierSays w x k j i n p a b v → IndexedQualifierSays w x k j i m q c d u
      → (n ≡ m) × (p ≡ q) × (a ≡ c) × (b ≡ d) × (v ≡ u)
  qualifier_once = once.indexed_qualifier_once laid_once

  -- ---- lent output: what is in it afterwards too

  pub feature_once : {j : ℕ} {out : List ℕ} {n p m q : ℕ} {y z : FeatureShown} {a b : List ℕ} → IndexedFeatureSays w x k j out n p y a
      → IndexedFeatureSays w x k j out m q z b → (n ≡ m) × (p ≡ q) × (y ≡ z) × (a ≡ b)
  feature_once = once.indexed_feature_once laid_once

  pub translation_once : {j : ℕ} {out : List ℕ} {n p z m q r : ℕ} {y v : List ℕ} → IndexedTranslationSays w x k j out n p z y → IndexedTranslationSays w x k j out m q r v
      → (n ≡ m) × (p ≡ q) × (z ≡ r) × (y ≡ v)
  translation_once = once.indexed_translation_once laid_once

  pub translations_once : {out : List ℕ} {n p z m q r : ℕ} {y v : List ℕ} → IndexedTranslationsSays w x k out n p z y → IndexedTranslationsSays w x k out m q r v
      → (n ≡ m) × (p ≡ q) × (z ≡ r) × (y ≡ v)
  translations_once = once.indexed_translations_once laid_once

-- ---- the answers themselves

module _ (w x : List ℕ) (k : ℕ) where
  pub sequence_given_once : (y z : SequenceAnswer) → IndexedSequenceGiven w x k y → IndexedSequenceGiven w x k z → y ≡ z
  sequence_given_once = given.sequence_given_once w (IndexedSequenceSays w x k) (λ n p d m q e y z. sequence_once)

  pub qualifier_given_once : (j i : ℕ) (y z : QualifierAnswer) → IndexedQualifierGiven w x k j i y → IndexedQualifierGiven w x k j i z → y ≡ z
  qualifier_given_once j i = given.qualifier_given_once w (IndexedQualifierSays w x k j i) (λ n p m q a v c u b d. qualifier_once)

  pub feature_given_once : (j : ℕ) (out : List ℕ) (y z : FeatureAnswer) (a b : List ℕ) → IndexedFeatureGiven w x k j out y a → IndexedFeatureGiven w x k j out z b
      → (y ≡ z) × (a ≡ b)
  feature_given_once j out = given.feature_given_once w (IndexedFeatureSays w x k j out) (λ n p m q y z a b. feature_once)

  pub translation_given_once : (j : ℕ) (out : List ℕ) (y z : LentAnswer) (a b : List ℕ) → IndexedTranslationGiven w x k j out y a
      → IndexedTranslationGiven w x k j out z b → (y ≡ z) × (a ≡ b)
  translation_given_once j out = given.lent_given_once (IndexedTranslationSays w x k j out) (λ n p y m q z a b. translation_once)

  pub translations_given_once : (out : List ℕ) (y z : LentAnswer) (a b : List ℕ) → IndexedTranslationsGiven w x k out y a → IndexedTranslationsGiven w x k out z b
      → (y ≡ z) × (a ≡ b)
  translations_given_once out = given.lent_given_once (IndexedTranslationsSays w x k out) (λ n p y m q z a b. translations_once)

-- ---- parts of the lent listing, which stands at `at`

module _ (w : List ℕ) (at : ℕ × ℕ) (x : List ℕ) where
  pub shows_sequence_once : (k : ℕ) (y z : Sequence) → ShowsSequence w at x k y → ShowsSequence w at x k z → y ≡ z
  shows_sequence_once k = views.shows_sequence_once w at (IndexedSequenceSays w x k) (λ n p d m q e y z. sequence_once)

  pub shows_feature_once : (k j : ℕ) (out : List ℕ) (y z : Result Feature Refused) (a b : List ℕ) → ShowsFeature w at x k j out y a
      → ShowsFeature w at x k j out z b → (y ≡ z) × (a ≡ b)
  shows_feature_once k j out = views.shows_feature_once w at (IndexedFeatureSays w x k j out) (λ n p m q y z a b. feature_once)

  pub shows_qualifier_once : (k j i : ℕ) (y z : Result Qualifier Refused) → ShowsQualifier w at x k j i y → ShowsQualifier w at x k j i z → y ≡ z
  shows_qualifier_once k j i = views.shows_qualifier_once w at (IndexedQualifierSays w x k j i) (λ n p m q a v c u b d. qualifier_once)
