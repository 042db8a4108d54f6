-- What is promised of a coding region: its key, and where its codons start.
use Rattle.std.specs.Prelude.{ℕ, ◌≡◌, Bool, List}
use Rattle.paper.specs.Bytes.{raw}
use Rattle.paper.specs.Tree.{Sequence, Feature, qualifiers_of}
use Rattle.paper.specs.Rules.{Coding, CodonStart}
use Rattle.value_words.specs.Reading.{Tells, KindIs}
use Rattle.value_words.specs.declared.Molecule as code
use Rattle.judge_qualifiers.specs.declared.Frame.{Frame}
use Rattle.judge_qualifiers.specs.Qualifiers.{FrameIs}

-- of whichever sequence of that kind, and feature whose key is written so
pub record NamesCoding (key : List ℕ) (kind : code.Molecule) (r : Bool) : Type 0 where
  pub says : (q : Sequence ℕ) (f : Feature ℕ) → KindIs q.moltype.read kind → key ≡ raw f.key.read → Tells r (Coding q f)

-- ---- where its codons start

-- of whichever region that keeps rule 27
pub record StartsAt (frame : Frame) (r : ℕ) : Type 0 where
  pub says : (f : Feature ℕ) → FrameIs (qualifiers_of f) frame → ¬ ((n : ℕ) → ¬ CodonStart f n) → CodonStart f r
