-- A part that is shown: what the answer says, and that the part is a stretch of the lent listing itself.
use Rattle.std.specs.Prelude.{ℕ, ◌≤◌, Result, List, length}
use Rattle.paper.specs.declared.Refused.{Refused}
use Rattle.paper.specs.Tree as tree
use Rattle.paper.specs.Answers.{limit, SequenceSays, FeatureSays, QualifierSays}
use Rattle.walk_items.specs.Items.{IsSequence}
use Rattle.walk_items.specs.declared.FoundSequence.{FoundSequence}
use Rattle.judge_faults.specs.Known.{Knows}
use Rattle.judge_faults.specs.declared.Known.{Known}
use Rattle.ask_show.specs.Shown.{ShowsSequenceBy, ShowsFeatureBy, ShowsQualifierBy}
use Rattle.ask_show.specs.declared.Sequence.{Sequence}
use Rattle.ask_show.specs.declared.Feature.{Feature}
use Rattle.ask_show.specs.declared.Qualifier.{Qualifier}

-- what is known of whichever sequence was found so
pub record KnowsSequence (s : List ℕ) (f : FoundSequence) (r : Known) : Type 0 where
  pub says : (q : tree.Sequence ℕ) (e : ℕ) → length s ≤ limit → IsSequence s q e f → Knows s q r

-- ---- the listing w stands at `at`

abbrev pub ShowsSequence : List ℕ → ℕ × ℕ → ℕ → Sequence → Type 0
ShowsSequence w at k = ShowsSequenceBy (SequenceSays w k) w at

abbrev pub ShowsFeature : List ℕ → ℕ × ℕ → ℕ → ℕ → (out : List ℕ) → Result Feature Refused → (after : List ℕ) → Type 0
ShowsFeature w at k j out = ShowsFeatureBy (FeatureSays w k j out) w at

abbrev pub ShowsQualifier : List ℕ → ℕ × ℕ → ℕ → ℕ → ℕ → Result Qualifier Refused → Type 0
ShowsQualifier w at k j i = ShowsQualifierBy (QualifierSays w k j i) w at
