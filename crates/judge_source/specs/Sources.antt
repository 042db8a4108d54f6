-- What is promised of the judgement of a source.
use Rattle.std.specs.Prelude.{ℕ, ◌≡◌, Bool, List}
use Rattle.paper.specs.Tree.{Sequence, Feature, qualifiers_of}
use Rattle.paper.specs.Rules.{InSource}
use Rattle.walk_steps.specs.Stands.{IsPart}
use Rattle.walk_steps.specs.declared.Range.{Range}
use Rattle.value_words.specs.Reading.{Tells}
use Rattle.judge_faults.specs.Sets.{Fault, Firsts}
use Rattle.judge_faults.specs.Known.{Knows}
use Rattle.judge_faults.specs.declared.Known.{Known}
use Rattle.judge_qualifiers.specs.Qualifiers.{IsNoted}
use Rattle.judge_qualifiers.specs.declared.Noted.{Noted}

pub record TellsOnce (organisms molTypes : ℕ) (r : Bool) : Type 0 where
  pub says : Tells r ((organisms ≡ 1) × (molTypes ≡ 1))

-- the feature f of the sequence q is judged as a source, its names in upper case or not, whatever its row is; its qualifiers end at `stop`
pub record Asked (s : List ℕ) (key : ℕ) (location : Range) (noted : Noted) (known : Known) (upper : Bool) (row : ℕ) (t : List ℕ) (q : Sequence ℕ) (f : Feature ℕ) (stop : ℕ) : Type 0 where
  pub knows : Knows s q known
  pub at : key ≡ f.key.place
  pub located : IsPart s f.location location
  pub quals : IsNoted s upper row t (qualifiers_of f) stop noted

pub record JudgesSource (s : List ℕ) (key : ℕ) (location : Range) (noted : Noted) (known : Known) (r : Fault) : Type 0 where
  pub says : (upper : Bool) (row : ℕ) (t : List ℕ) (q : Sequence ℕ) (f : Feature ℕ) (stop : ℕ) → Asked s key location noted known upper row t q f stop → Firsts (InSource upper q f) r
