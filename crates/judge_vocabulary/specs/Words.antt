-- What is promised of the judgement of a feature's words.
use Rattle.std.specs.Prelude.{ℕ, ◌≤◌, ◌≡◌, Bool, true, List}
use Rattle.paper.specs.Tree.{Sequence, Feature, qualifiers_of}
use Rattle.paper.specs.Rules.{Kind, IsKind, InVocabulary}
use Rattle.value_words.specs.Reading.{Tells, KindIs}
use Rattle.value_words.specs.declared.Molecule.{Molecule}
use Rattle.value_vocabulary.specs.Lookups.{RowIs}
use Rattle.judge_faults.specs.Sets.{Fault, Firsts}
use Rattle.judge_qualifiers.specs.Qualifiers.{StandsBy, WordedBy}
use Rattle.judge_qualifiers.specs.declared.Worded.{Worded}

pub record HasAll (needs : ℕ) (first second : Bool) (r : Bool) : Type 0 where
  pub says : Tells r ((1 ≤ needs → first ≡ true) × (2 ≤ needs → second ≡ true))

-- the feature f of the sequence q is judged: where its key stands, the place of its row, and what its names say
pub record AskedWords (t : List ℕ) (key row : ℕ) (words : Worded) (q : Sequence ℕ) (f : Feature ℕ) : Type 0 where
  pub at : key ≡ f.key.place
  pub rows : (k : Kind) → IsKind k q → RowIs k t f.key.read row
  pub worded : (st : List ℕ → ℕ) → StandsBy t row st → WordedBy st words (qualifiers_of f)

pub record JudgesRow (t : List ℕ) (key row : ℕ) (words : Worded) (r : Fault) : Type 0 where
  pub says : (k : Kind) (q : Sequence ℕ) (f : Feature ℕ) → IsKind k q → AskedWords t key row words q f → Firsts (InVocabulary q f) r

pub record JudgesWords (t : List ℕ) (key : ℕ) (kind : Molecule) (row : ℕ) (words : Worded) (r : Fault) : Type 0 where
  pub says : (q : Sequence ℕ) (f : Feature ℕ) → KindIs q.moltype.read kind → AskedWords t key row words q f → Firsts (InVocabulary q f) r
