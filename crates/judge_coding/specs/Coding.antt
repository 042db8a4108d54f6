-- What is promised of the judgement of a coding region.
use Rattle.location_judge.specs.declared.judging.Facts.{Facts}
use Rattle.std.specs.Prelude.{ℕ, ◌<◌, ◌≡◌, Bool, None, Some, List, drop, Option}
use Rattle.paper.specs.Tree.{Sequence, Feature, qualifiers_of}
use Rattle.paper.specs.Rules.{L, Coding, CodonStart, Unjudged, InCoding}
use Rattle.read_steps.specs.Follow.{Starts, closing}
use Rattle.walk_steps.specs.Stands.{IsPart}
use Rattle.walk_steps.specs.declared.Range.{Range}
use Rattle.value_words.specs.Reading.{Tells}
use Rattle.location_judge.specs.Judging.{JudgedText}
use Rattle.judge_faults.specs.Known.{Knows}
use Rattle.judge_faults.specs.declared.Known.{Known}
use Rattle.judge_faults.specs.Sets.{Fault, Firsts}
use Rattle.judge_qualifiers.specs.Qualifiers.{RestIs, IsNoted}
use Rattle.judge_qualifiers.specs.declared.Noted.{Noted}
use Rattle.judge_coding.specs.declared.Region.{Region}

-- the feature f of the sequence q is the coding region that is judged, and its qualifiers end at `stop`
pub record Asked (s : List ℕ) (key : ℕ) (location : Range) (known : Known) (verdict : Option Facts) (q : Sequence ℕ) (f : Feature ℕ) (stop : ℕ) : Type 0 where
  pub knows : Knows s q known
  pub coding : Coding q f
  pub at : key ≡ f.key.place
  pub located : IsPart s f.location location
  pub judged : JudgedText (L q) f.location.read verdict
  pub closes : Starts closing (drop stop s)

-- a fault that comes before the place
abbrev pub Settled : Fault → ℕ → Type 0
Settled None p = ⊥
Settled (Some x) p = x.place < p

pub record IsRegion (q : Sequence ℕ) (f : Feature ℕ) (r : Region) : Type 0 where
  pub fault : Firsts (InCoding q f) r.fault
  pub unjudged : Tells r.unjudged (Unjudged f)

-- whichever names of a source were counted, and whatever the key's row is
pub record JudgesCoding (s : List ℕ) (key : ℕ) (location : Range) (noted : Noted) (known : Known) (verdict : Option Facts) (r : Region) : Type 0 where
  pub says : (upper : Bool) (row : ℕ) (t : List ℕ) (q : Sequence ℕ) (f : Feature ℕ) (stop : ℕ) → Asked s key location known verdict q f stop
      → IsNoted s upper row t (qualifiers_of f) stop noted → IsRegion q f r

-- where rule 27 holds, translation starts with residue `start`, and no translation stands before `rest`
pub record JudgesRegion (s : List ℕ) (location : Range) (rest : ℕ) (known : Known) (verdict : Option Facts) (start : ℕ) (unjudged : Bool) (r : Fault) : Type 0 where
  pub says : (key : ℕ) (q : Sequence ℕ) (f : Feature ℕ) (stop : ℕ) → Asked s key location known verdict q f stop
      → RestIs s rest (qualifiers_of f) stop → CodonStart f start → Tells unjudged (Unjudged f) → Firsts (InCoding q f) r
