-- What is promised of an answer. By `Says`, what the paper says of the call in numbers and parts: of what is shown the number 0, and each
-- part lies within the listing w; a refusal has its number, which isn't 0, and its place, and shows nothing.
use Rattle.std.specs.Prelude.{ℕ, ◌≡◌, Bool, false, Ok, Err, is_some, List}
use Rattle.paper.specs.Answers.{Part, no_part, nothing_shown, SequenceSays, FeatureSays, QualifierSays, TranslationSays, TranslationsSays}
use Rattle.paper.specs.Answers as paper
use Rattle.paper.specs.Index.{IndexSays, IndexedSequenceSays, IndexedFeatureSays, IndexedQualifierSays, IndexedTranslationSays, IndexedTranslationsSays}
use Rattle.ask_answers.specs.Stretches.{SequenceAnswer, FeatureAnswer, QualifierAnswer, LentAnswer, part_is, Lies, value_is, ValueLies, kind_is, shown_in}

abbrev pub SequenceGivenBy : (Says : (number place kind : ℕ) (residues : Part) → Type 0) → List ℕ → SequenceAnswer → Type 0
SequenceGivenBy Says w (Ok x) = Says 0 0 (kind_is x.kind) (part_is x.residues) × Lies w x.residues
SequenceGivenBy Says w (Err r) = (¬ (r.rule ≡ 0)) × Says r.rule r.place 0 no_part

-- with the lent numbers as they are afterwards
abbrev pub FeatureGivenBy : (Says : (number place : ℕ) → paper.FeatureShown → List ℕ → Type 0) → List ℕ → FeatureAnswer → List ℕ → Type 0
FeatureGivenBy Says w (Ok x) after = Says 0 0 (shown_in x) after × (Lies w x.key × Lies w x.location)
FeatureGivenBy Says w (Err r) after = (¬ (r.rule ≡ 0)) × Says r.rule r.place nothing_shown after

abbrev pub QualifierGivenBy : (Says : (number place : ℕ) (name : Part) (present : Bool) (value : Part) → Type 0) → List ℕ → QualifierAnswer → Type 0
QualifierGivenBy Says w (Ok x) = Says 0 0 (part_is x.name) (is_some x.value) (value_is x.value) × (Lies w x.name × ValueLies w x.value)
QualifierGivenBy Says w (Err r) = (¬ (r.rule ≡ 0)) × Says r.rule r.place no_part false no_part

-- with the lent bytes as they are afterwards
abbrev pub LentGivenBy : (Says : (number place size : ℕ) → List ℕ → Type 0) → LentAnswer → List ℕ → Type 0
LentGivenBy Says (Ok n) after = Says 0 0 n after
LentGivenBy Says (Err r) after = (¬ (r.rule ≡ 0)) × Says r.rule r.place 0 after

-- ---- of the calls

abbrev pub SequenceGiven : List ℕ → ℕ → SequenceAnswer → Type 0
SequenceGiven w k = SequenceGivenBy (SequenceSays w k) w

abbrev pub FeatureGiven : List ℕ → ℕ → ℕ → (out : List ℕ) → FeatureAnswer → (after : List ℕ) → Type 0
FeatureGiven w k j out = FeatureGivenBy (FeatureSays w k j out) w

abbrev pub QualifierGiven : List ℕ → ℕ → ℕ → ℕ → QualifierAnswer → Type 0
QualifierGiven w k j i = QualifierGivenBy (QualifierSays w k j i) w

abbrev pub TranslationGiven : List ℕ → ℕ → ℕ → (out : List ℕ) → LentAnswer → (after : List ℕ) → Type 0
TranslationGiven w k j out = LentGivenBy (TranslationSays w k j out)

abbrev pub TranslationsGiven : List ℕ → ℕ → (out : List ℕ) → LentAnswer → (after : List ℕ) → Type 0
TranslationsGiven w k out = LentGivenBy (TranslationsSays w k out)

-- ---- of the calls of request 5, with an index x

abbrev pub IndexGiven : List ℕ → (out : List ℕ) → LentAnswer → (after : List ℕ) → Type 0
IndexGiven w out = LentGivenBy (IndexSays w out)

module _ (w x : List ℕ) where
  abbrev pub IndexedSequenceGiven : ℕ → SequenceAnswer → Type 0
  IndexedSequenceGiven k = SequenceGivenBy (IndexedSequenceSays w x k) w

  abbrev pub IndexedFeatureGiven : ℕ → ℕ → (out : List ℕ) → FeatureAnswer → (after : List ℕ) → Type 0
  IndexedFeatureGiven k j out = FeatureGivenBy (IndexedFeatureSays w x k j out) w

  abbrev pub IndexedQualifierGiven : ℕ → ℕ → ℕ → QualifierAnswer → Type 0
  IndexedQualifierGiven k j i = QualifierGivenBy (IndexedQualifierSays w x k j i) w

  abbrev pub IndexedTranslationGiven : ℕ → ℕ → (out : List ℕ) → LentAnswer → (after : List ℕ) → Type 0
  IndexedTranslationGiven k j out = LentGivenBy (IndexedTranslationSays w x k j out)

  abbrev pub IndexedTranslationsGiven : ℕ → (out : List ℕ) → LentAnswer → (after : List ℕ) → Type 0
  IndexedTranslationsGiven k out = LentGivenBy (IndexedTranslationsSays w x k out)
