-- An answer handed over as numbers: one is returned, the others go to the lent places.
use Rattle.std.specs.Prelude.{ℕ, ◌≤◌, ◌<◌, ◌≡◌, Bool, true, false, Ok, Err, is_some, unwrap_or}
use Rattle.paper.specs.Answers.{Verdict}
use Rattle.paper.specs.declared.Figures.{Figures}
use Rattle.paper.specs.declared.Refused.{Refused}
use Rattle.location_judge.specs.Readings.{operator_code}
use Rattle.ask_answers.specs.Stretches.{SequenceAnswer, FeatureAnswer, QualifierAnswer, LentAnswer, IndexVerdict, no_stretch, kind_is}
use Rattle.ask_answers.specs.declared.SequenceShown.{SequenceShown}
use Rattle.ask_answers.specs.declared.FeatureShown.{FeatureShown}
use Rattle.ask_answers.specs.declared.QualifierShown.{QualifierShown}

-- a number in a narrower type: one that a byte holds stays as it is, and any other is 255
pub record Narrow (n r : ℕ) : Type 0 where
  pub says : n ≤ 255 → r ≡ n
  pub above : 255 < n → r ≡ 255

abbrev pub flag_of : Bool → ℕ
flag_of true = 1
flag_of false = 0

-- the number that is returned, and the place; every other number of a refusal is 0
pub data HandsRefusal (q : Refused) : (number place : ℕ) → Type 0 where
  refusal : {r : ℕ} → Narrow q.rule r → HandsRefusal q r q.place

pub data HandsVerdict : (v : Verdict) (number place total skipped features judged unjudged : ℕ) → Type 0 where
  accepted : {x : Figures} → HandsVerdict (Ok x) 0 0 x.total x.skipped x.features x.judged x.unjudged
  refused : {q : Refused} {r p : ℕ} → HandsRefusal q r p → HandsVerdict (Err q) r p 0 0 0 0 0

pub data HandsSequence : (a : SequenceAnswer) (number place kind start size : ℕ) → Type 0 where
  sequence : {x : SequenceShown} → HandsSequence (Ok x) 0 0 (kind_is x.kind) x.residues.start x.residues.size
  refused : {q : Refused} {r p : ℕ} → HandsRefusal q r p → HandsSequence (Err q) r p 0 0 0

pub data HandsFeature : (a : FeatureAnswer) (number place keystart keysize locationstart locationsize operator count : ℕ) → Type 0 where
  feature : {x : FeatureShown} → HandsFeature (Ok x) 0 0 x.key.start x.key.size x.location.start x.location.size (operator_code x.operator) x.count
  refused : {q : Refused} {r p : ℕ} → HandsRefusal q r p → HandsFeature (Err q) r p 0 0 0 0 0 0

pub data HandsQualifier : (a : QualifierAnswer) (number place namestart namesize present valuestart valuesize : ℕ) → Type 0 where
  qualifier : {x : QualifierShown} → HandsQualifier (Ok x) 0 0 x.name.start x.name.size (flag_of (is_some x.value))
      (unwrap_or x.value no_stretch).start (unwrap_or x.value no_stretch).size
  refused : {q : Refused} {r p : ℕ} → HandsRefusal q r p → HandsQualifier (Err q) r p 0 0 0 0 0

pub data HandsLent : (a : LentAnswer) (number place size : ℕ) → Type 0 where
  lent : {n : ℕ} → HandsLent (Ok n) 0 0 n
  refused : {q : Refused} {r p : ℕ} → HandsRefusal q r p → HandsLent (Err q) r p 0

pub data HandsIndexVerdict : (a : IndexVerdict) (number place : ℕ) → Type 0 where
  belongs : {x : Unit {0}} → HandsIndexVerdict (Ok x) 0 0
  refused : {q : Refused} {r p : ℕ} → HandsRefusal q r p → HandsIndexVerdict (Err q) r p
