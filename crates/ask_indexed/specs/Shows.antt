-- A part that is shown with an index x: what the answer says, and that the part is a stretch of the lent listing itself, which stands at
-- `at`: "whatever is shown is part of the listing, never of the index".
use Rattle.std.specs.Prelude.{ℕ, Result, List}
use Rattle.paper.specs.declared.Refused.{Refused}
use Rattle.paper.specs.Index.{IndexedSequenceSays, IndexedFeatureSays, IndexedQualifierSays}
use Rattle.ask_show.specs.Shown.{ShowsSequenceBy, ShowsFeatureBy, ShowsQualifierBy}
use Rattle.ask_show.specs.declared.Sequence.{Sequence}
use Rattle.ask_show.specs.declared.Feature.{Feature}
use Rattle.ask_show.specs.declared.Qualifier.{Qualifier}

abbrev pub ShowsSequence : List ℕ → ℕ × ℕ → List ℕ → ℕ → Sequence → Type 0
ShowsSequence w at x k = ShowsSequenceBy (IndexedSequenceSays w x k) w at

abbrev pub ShowsFeature : List ℕ → ℕ × ℕ → List ℕ → ℕ → ℕ → (out : List ℕ) → Result Feature Refused → (after : List ℕ) → Type 0
ShowsFeature w at x k j out = ShowsFeatureBy (IndexedFeatureSays w x k j out) w at

abbrev pub ShowsQualifier : List ℕ → ℕ × ℕ → List ℕ → ℕ → ℕ → ℕ → Result Qualifier Refused → Type 0
ShowsQualifier w at x k j i = ShowsQualifierBy (IndexedQualifierSays w x k j i) w at
