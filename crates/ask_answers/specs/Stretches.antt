-- A part of the listing as a stretch: where it starts, and how long it is; and what an answer shows, as the paper says it.
use Rattle.std.specs.Prelude.{ℕ, ◌+◌, ◌≤◌, Option, Some, None, Result, List, length, ⊤}
use Rattle.paper.specs.Answers as paper
use Rattle.paper.specs.declared.Refused.{Refused}
use Rattle.location_judge.specs.Readings.{operator_code}
use Rattle.value_words.specs.declared.Molecule.{Molecule}
use Rattle.value_words.specs.declared.Molecule.TheVariants.{Dna, Rna, Aa, Other}
use Rattle.ask_answers.specs.declared.Stretch.{Stretch}
use Rattle.ask_answers.specs.declared.SequenceShown.{SequenceShown}
use Rattle.ask_answers.specs.declared.FeatureShown.{FeatureShown}
use Rattle.ask_answers.specs.declared.QualifierShown.{QualifierShown}

abbrev pub SequenceAnswer : Type 0
SequenceAnswer = Result SequenceShown Refused

abbrev pub FeatureAnswer : Type 0
FeatureAnswer = Result FeatureShown Refused

abbrev pub QualifierAnswer : Type 0
QualifierAnswer = Result QualifierShown Refused

abbrev pub LentAnswer : Type 0
LentAnswer = Result ℕ Refused

abbrev pub IndexVerdict : Type 0
IndexVerdict = Result (Unit {0}) Refused

-- ---- a stretch

abbrev pub no_stretch : Stretch
no_stretch = record { start = 0; size = 0 }

-- a stretch as the paper's part
abbrev pub part_is : Stretch → paper.Part
part_is x = record { start = x.start; size = x.size }

-- it lies within the listing
abbrev pub Lies : List ℕ → Stretch → Type 0
Lies w x = x.start + x.size ≤ length w

-- ---- of a value that may be missing

abbrev pub value_is : Option Stretch → paper.Part
value_is None = paper.no_part
value_is (Some x) = part_is x

abbrev pub ValueLies : List ℕ → Option Stretch → Type 0
ValueLies w None = ⊤
ValueLies w (Some x) = Lies w x

-- ---- of a kind and of a feature

abbrev pub kind_is : Molecule → ℕ
kind_is Dna = 1
kind_is Rna = 2
kind_is Aa = 3
kind_is Other = 0

abbrev pub shown_in : FeatureShown → paper.FeatureShown
shown_in a = record { key = part_is a.key; location = part_is a.location; operator = operator_code a.operator; count = a.count }
