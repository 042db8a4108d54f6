-- What is promised of an answer: it is the paper's, of whichever item of an accepted listing was found so.
use Rattle.std.specs.Prelude.{ℕ, ◌≡◌, Ok, List}
use Rattle.paper.specs.Tree.{Qualifier, Feature, Sequence}
use Rattle.paper.specs.Rules.{L}
use Rattle.paper.specs.Answers.{give, FindsSequence, FindsFeature, FindsQualifier}
use Rattle.value_words.specs.Reading.{KindIs}
use Rattle.value_words.specs.declared.Molecule.{Molecule}
use Rattle.walk_steps.specs.Stands.{IsPart}
use Rattle.walk_steps.specs.declared.Range.{Range}
use Rattle.walk_items.specs.Items.{IsQualifier, IsFeature, FirstFeature}
use Rattle.walk_items.specs.declared.FoundQualifier.{FoundQualifier}
use Rattle.walk_items.specs.declared.FoundFeature.{FoundFeature}
use Rattle.judge_faults.specs.Known.{Knows}
use Rattle.judge_faults.specs.declared.Known.{Known}
use Rattle.ask_answers.specs.Stretches.{FeatureAnswer, LentAnswer}
use Rattle.ask_answers.specs.Given.{SequenceGiven, FeatureGiven, QualifierGiven, TranslationGiven, TranslationsGiven}
use Rattle.ask_answers.specs.declared.SequenceShown.{SequenceShown}
use Rattle.ask_answers.specs.declared.QualifierShown.{QualifierShown}

pub record TopOf (residues : Range) (r : ℕ) : Type 0 where
  pub says : (w : List ℕ) (k : ℕ) (q : Sequence ℕ) → FindsSequence w k (give q) → IsPart w q.residues residues → r ≡ L q

pub record KnowsFound (kind : Molecule) (residues : Range) (r : Known) : Type 0 where
  pub says : (w : List ℕ) (k : ℕ) (q : Sequence ℕ) → FindsSequence w k (give q) → KindIs q.moltype.read kind → IsPart w q.residues residues
      → Knows w q r

pub record AnswersSequence (kind : Molecule) (residues : Range) (r : SequenceShown) : Type 0 where
  pub says : (w : List ℕ) (k : ℕ) (q : Sequence ℕ) → FindsSequence w k (give q) → KindIs q.moltype.read kind → IsPart w q.residues residues
      → SequenceGiven w k (Ok r)

pub record AnswersFeature (w : List ℕ) (residues key location : Range) (out : List ℕ) (r : FeatureAnswer) (after : List ℕ) : Type 0 where
  pub says : (k j : ℕ) (q : Sequence ℕ) (f : Feature ℕ) → FindsFeature w k j (give (q, f)) → IsPart w q.residues residues → IsPart w f.key key
      → IsPart w f.location location → FeatureGiven w k j out r after

pub record AnswersQualifier (found : FoundQualifier) (r : QualifierShown) : Type 0 where
  pub says : (w : List ℕ) (k j i : ℕ) (q : Qualifier ℕ) (e : ℕ) → FindsQualifier w k j i (give q) → IsQualifier w q e found
      → QualifierGiven w k j i (Ok r)

pub record AnswersTranslation (w : List ℕ) (known : Known) (feature : FoundFeature) (out : List ℕ) (r : LentAnswer) (after : List ℕ) : Type 0 where
  pub says : (k j : ℕ) (q : Sequence ℕ) (f : Feature ℕ) (e : ℕ) → FindsFeature w k j (give (q, f)) → Knows w q known → IsFeature w f e feature
      → TranslationGiven w k j out r after

pub record AnswersTranslations (w : List ℕ) (known : Known) (first : FoundFeature) (out : List ℕ) (r : LentAnswer) (after : List ℕ) : Type 0 where
  pub says : (k : ℕ) (q : Sequence ℕ) → FindsSequence w k (give q) → Knows w q known → FirstFeature w q first → TranslationsGiven w k out r after
