-- The answer of an item that was asked for, from how it was found.
use Prim.Native.Nat.{ℕ}
use mathlib.Core.Path.{◌≡◌}
use mathlib.Core.List.{List}
use Rattle.std.specs.Prelude.{Some, None, Ok}
use Rattle.paper.specs.Answers.{TranslationsSays}
use Rattle.read_steps.specs.Parts.{ShowsBytes}
use Rattle.value_words.specs.Reading.{Moltypes}
use Rattle.value_words.specs.declared.Molecule.{Molecule}
use Rattle.walk_items.specs.Items.{MeetsFeature}
use Rattle.walk_items.specs.declared.FoundSequence.{FoundSequence}
use Rattle.walk_items.specs.declared.FoundFeature.{FoundFeature}
use Rattle.walk_items.specs.declared.FoundTable.{FoundTable}
use Rattle.walk_items.specs.declared.FoundQualifier.{FoundQualifier}
use Rattle.walk_items.proofs.Inner.{first_found, no_features}
use Rattle.judge_faults.specs.Known.{Knows}
use Rattle.judge_faults.specs.declared.Known.{Known}
use Rattle.judge_faults.proofs.Bytes.{part_shows}
use Rattle.ask_answers.specs.Stretches.{FeatureAnswer, LentAnswer}
use Rattle.ask_answers.specs.Given.{SequenceGiven, FeatureGiven, QualifierGiven, TranslationGiven, TranslationsGiven}
use Rattle.ask_answers.specs.declared.SequenceShown.{SequenceShown}
use Rattle.ask_answers.specs.declared.QualifierShown.{QualifierShown}
use Rattle.ask_find.specs.Finds.{SequenceIs, FeatureIs, QualifierIs}
use Rattle.ask_find.proofs.Found.{feature_given}
use Rattle.ask_found.specs.Answers as answers
use Rattle.ask_found.proofs.Accepted.{accepts}
use Rattle.ask_found.proofs.Translated.{translations_none}
use Rattle.ask_lookups.specs.Shows.{KnowsSequence}

module _ {w : List ℕ} {k : ℕ} where
  module _ {s : FoundSequence} (i : SequenceIs w k s) where
    pub sequence_answered : {m : List ℕ} {c : Molecule} {r : SequenceShown} → ShowsBytes w s.moltype.from s.moltype.to m → Moltypes m c
        → answers.AnswersSequence c s.residues r → SequenceGiven w k (Ok r)
    sequence_answered h t a =
        a.says w k i.asked i.finds (t.says i.asked.moltype.read (part_shows i.is.moltype h)) i.is.residues

    found_knows : {known : Known} → KnowsSequence w s known → Knows w i.asked known
    found_knows h = h.says i.asked i.end (accepts i.finds).short i.is

    pub no_lines : {out : List ℕ} → s.table ≡ None → TranslationsSays w k out 0 0 0 out
    no_lines h = translations_none i.finds (no_features i.is h)

    pub translations_answered : {t : FoundTable} {known : Known} {g : FoundFeature} {out after : List ℕ} {r : LentAnswer} → s.table ≡ Some t → KnowsSequence w s known
        → MeetsFeature w t.first g → answers.AnswersTranslations w known g out r after → TranslationsGiven w k out r after
    translations_answered h n m a = a.says k i.asked i.finds (found_knows n) (first_found i.is h m)

  module _ {j : ℕ} {s : FoundSequence} {f : FoundFeature} (i : FeatureIs w k j s f) where
    pub feature_answered : {out after : List ℕ} {r : FeatureAnswer} → answers.AnswersFeature w s.residues f.key f.location out r after
        → FeatureGiven w k j out r after
    feature_answered a =
        let y = i.feature in
        a.says k j i.sequence.asked y.asked (feature_given i) i.sequence.is.residues y.is.key y.is.location

    pub translation_answered : {known : Known} {out after : List ℕ} {r : LentAnswer} → KnowsSequence w s known
        → answers.AnswersTranslation w known f out r after → TranslationGiven w k j out r after
    translation_answered h a =
        let y = i.feature in
        a.says k j i.sequence.asked y.asked y.end (feature_given i) (found_knows i.sequence h) y.is

  pub qualifier_answered : {j i : ℕ} {f : FoundQualifier} {r : QualifierShown} → QualifierIs w k j i f → answers.AnswersQualifier f r → QualifierGiven w k j i (Ok r)
  qualifier_answered {j} {i} x a = a.says w k j i x.asked x.end x.finds x.is
