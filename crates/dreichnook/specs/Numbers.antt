-- What the C functions return and set, by name; and how they say a Boolean in numbers.
use Rattle.std.specs.Prelude.{ℕ, ◌≡◌, Bool, List}
use Rattle.paper.specs.Answers.{Verdict, Part, FeatureShown, CheckSays, CheckNumbers, numbers_of, QualifierSays}
use Rattle.paper.specs.Index.{IndexedQualifierSays}
use Rattle.paper.specs.Demands.{InListing}
use Rattle.ask_answers.specs.Handed.{flag_of}

-- ---- the check

pub record SaysCheck (w : List ℕ) (x : CheckNumbers) : Type 0 where
  pub verdict : Verdict
  pub says : CheckSays w verdict
  pub is : x ≡ numbers_of verdict

-- ---- a feature

abbrev pub part : ℕ → ℕ → Part
part start size = record { start = start; size = size }

abbrev pub feature_shown : (keystart keysize locationstart locationsize operator count : ℕ) → FeatureShown
feature_shown s z t y o c = record { key = part s z; location = part t y; operator = o; count = c }

-- ---- a qualifier

pub record QualifierNumbers : Type 0 where
  pub number : ℕ
  pub place : ℕ
  pub name : Part
  pub flag : ℕ
  pub value : Part

-- `Says` is what the paper says of the call
pub record SaysQualifierBy (Says : (number place : ℕ) (name : Part) (present : Bool) (value : Part) → Type 0) (w : List ℕ) (x : QualifierNumbers) : Type 0 where
  pub present : Bool
  pub flagged : x.flag ≡ flag_of present
  pub says : Says x.number x.place x.name present x.value
  -- "start + size never exceeds length"
  pub inside : InListing w x.name × InListing w x.value

abbrev pub SaysQualifier : List ℕ → ℕ → ℕ → ℕ → QualifierNumbers → Type 0
SaysQualifier w k j i = SaysQualifierBy (QualifierSays w k j i) w

-- with an index x
abbrev pub SaysIndexedQualifier : List ℕ → List ℕ → ℕ → ℕ → ℕ → QualifierNumbers → Type 0
SaysIndexedQualifier w x k j i = SaysQualifierBy (IndexedQualifierSays w x k j i) w
