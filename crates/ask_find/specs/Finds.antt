-- What is promised of the items of an accepted listing: which of the paper's tree is found, and where it stands.
use Rattle.std.specs.Prelude.{ℕ, ◌≡◌, Result, Ok, Err, List, length, drop}
use Rattle.paper.specs.declared.Refused.{Refused}
use Rattle.paper.specs.Form.{each}
use Rattle.paper.specs.Tree.{Qualifier, Sequence, Listing}
use Rattle.paper.specs.Layout.{child, sequence}
use Rattle.paper.specs.Answers.{refuse, give, Checked, every_feature, FindsSequence, FindsFeature, FindsQualifier}
use Rattle.read_steps.specs.Follow.{Starts, closing}
use Rattle.walk_steps.specs.Stands.{Stands}
use Rattle.walk_items.specs.Items.{IsSequence, IsQualifier}
use Rattle.walk_items.specs.declared.FoundSequence.{FoundSequence}
use Rattle.walk_items.specs.declared.FoundFeature.{FoundFeature}
use Rattle.walk_items.specs.declared.FoundQualifier.{FoundQualifier}
use Rattle.walk_seek.specs.Within.{FeatureHere}
use Rattle.ask_find.specs.declared.AcceptedAt.{AcceptedAt}

-- ---- the sequences of an accepted listing

pub record FirstIs (w : List ℕ) (at total features : ℕ) : Type 0 where
  pub listing : Listing ℕ
  pub accepted : Checked w (give listing)
  pub totals : total ≡ length listing.sequences
  pub featured : features ≡ length (every_feature listing)
  pub end : ℕ
  pub sequences : Stands (each (child sequence) listing.sequences) w at end
  pub closes : Starts closing (drop end w)

abbrev pub FindsFirst : List ℕ → Result AcceptedAt Refused → Type 0
FindsFirst w (Err r) = Checked w (refuse r.rule r.place)
FindsFirst w (Ok a) = FirstIs w a.first a.total a.features

-- ---- a sequence

pub record SequenceIs (w : List ℕ) (k : ℕ) (r : FoundSequence) : Type 0 where
  pub asked : Sequence ℕ
  pub finds : FindsSequence w k (give asked)
  pub end : ℕ
  pub is : IsSequence w asked end r

abbrev pub SequenceAsked : List ℕ → ℕ → Result FoundSequence Refused → Type 0
SequenceAsked w k (Err r) = FindsSequence w k (refuse r.rule r.place)
SequenceAsked w k (Ok s) = SequenceIs w k s

-- ---- a feature

pub record FeatureIs (w : List ℕ) (k j : ℕ) (s : FoundSequence) (f : FoundFeature) : Type 0 where
  pub sequence : SequenceIs w k s
  pub feature : FeatureHere w (sequence).asked j f

abbrev pub FeatureAsked : List ℕ → ℕ → ℕ → Result (FoundSequence × FoundFeature) Refused → Type 0
FeatureAsked w k j (Err r) = FindsFeature w k j (refuse r.rule r.place)
FeatureAsked w k j (Ok x) = FeatureIs w k j x.0 x.1

-- ---- a qualifier

pub record QualifierIs (w : List ℕ) (k j i : ℕ) (r : FoundQualifier) : Type 0 where
  pub asked : Qualifier ℕ
  pub finds : FindsQualifier w k j i (give asked)
  pub end : ℕ
  pub is : IsQualifier w asked end r

abbrev pub QualifierAsked : List ℕ → ℕ → ℕ → ℕ → Result FoundQualifier Refused → Type 0
QualifierAsked w k j i (Err r) = FindsQualifier w k j i (refuse r.rule r.place)
QualifierAsked w k j i (Ok q) = QualifierIs w k j i q
