-- What is promised of the feature of a sequence that was found, and of the qualifier of a feature that was found: which of the paper's
-- tree it is.
use Rattle.std.specs.Prelude.{ℕ, ◌≡◌, Result, Ok, Err, List}
use Rattle.paper.specs.declared.Refused.{Refused}
use Rattle.paper.specs.Lists.{Numbered}
use Rattle.paper.specs.Tree.{Qualifier, Feature, Sequence, features_of, qualifiers_of}
use Rattle.walk_items.specs.Items.{IsSequence, IsFeature, IsQualifier}
use Rattle.walk_items.specs.declared.FoundSequence.{FoundSequence}
use Rattle.walk_items.specs.declared.FoundFeature.{FoundFeature}
use Rattle.walk_items.specs.declared.FoundQualifier.{FoundQualifier}

-- ---- a feature

-- the feature number j of q
pub record FeatureHere (w : List ℕ) (q : Sequence ℕ) (j : ℕ) (f : FoundFeature) : Type 0 where
  pub asked : Feature ℕ
  pub numbered : Numbered (features_of q) j asked
  pub end : ℕ
  pub is : IsFeature w asked end f

-- in whichever sequence was found so
abbrev pub FeatureIn : List ℕ → Sequence ℕ → ℕ → Result FoundFeature Refused → Type 0
FeatureIn w q j (Err x) = (x.rule ≡ 32) × (x.place ≡ 0) × ((f : Feature ℕ) → ¬ Numbered (features_of q) j f)
FeatureIn w q j (Ok f) = FeatureHere w q j f

pub record FeatureFound (w : List ℕ) (r : FoundSequence) (j : ℕ) (y : Result FoundFeature Refused) : Type 0 where
  pub says : (q : Sequence ℕ) (e : ℕ) → IsSequence w q e r → FeatureIn w q j y

-- ---- a qualifier

pub record QualifierHere (w : List ℕ) (f : Feature ℕ) (i : ℕ) (r : FoundQualifier) : Type 0 where
  pub asked : Qualifier ℕ
  pub numbered : Numbered (qualifiers_of f) i asked
  pub end : ℕ
  pub is : IsQualifier w asked end r

abbrev pub QualifierIn : List ℕ → Feature ℕ → ℕ → Result FoundQualifier Refused → Type 0
QualifierIn w f i (Err x) = (x.rule ≡ 33) × (x.place ≡ 0) × ((q : Qualifier ℕ) → ¬ Numbered (qualifiers_of f) i q)
QualifierIn w f i (Ok r) = QualifierHere w f i r

pub record QualifierFound (w : List ℕ) (g : FoundFeature) (i : ℕ) (y : Result FoundQualifier Refused) : Type 0 where
  pub says : (f : Feature ℕ) (e : ℕ) → IsFeature w f e g → QualifierIn w f i y
