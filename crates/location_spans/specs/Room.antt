-- What is promised of the spans in lent room.
use Rattle.std.specs.Prelude.{ℕ, ◌≤◌, ◌<◌, ◌≡◌, false, List, length, Option, None, Some}
use Rattle.paper.specs.Locations.{Location, Span, spans, operator_number, breaks25}
use Rattle.paper.specs.Answers.{triples, front}
use Rattle.read_steps.specs.Parts.{ShowsBytes}
use Rattle.location_judge.specs.Judging.{Spells}
use Rattle.location_judge.specs.Readings.{operator_code}
use Rattle.location_spans.specs.Walking.{Left}
use Rattle.location_spans.specs.declared.walking.Walk.{Walk}
use Rattle.location_spans.specs.declared.room.WrittenSpans.{WrittenSpans}

-- whichever location the bytes are has r spans
abbrev pub CountsSpans : List ℕ → ℕ → Type 0
CountsSpans s r = (t : Location) → Spells s t → r ≡ length (spans t)

-- whichever `count` spans are left of the walk stand at the front
abbrev pub PutsSpans : List ℕ → ℕ → Walk → ℕ → List ℕ → List ℕ → Type 0
PutsSpans s L w count out after = (l : List Span) → Left s L w l → length l ≡ count → after ≡ front (triples l) out

-- of the location t that keeps rule 25; a refusal "changes no lent output"
abbrev pub AnswerSays : Location → List ℕ → Option WrittenSpans → List ℕ → Type 0
AnswerSays t out None after = (after ≡ out) × (length out < length (triples (spans t)))
AnswerSays t out (Some x) after =
    (operator_code x.operator ≡ operator_number t) × (x.count ≡ length (spans t)) × (length (triples (spans t)) ≤ length out) × (after ≡ front (triples (spans t)) out)

-- of whichever location that keeps rule 25 the bytes are
pub record Answers (s : List ℕ) (L : ℕ) (out : List ℕ) (r : Option WrittenSpans) (after : List ℕ) : Type 0 where
  pub says : (t : Location) → Spells s t → breaks25 L t ≡ false → AnswerSays t out r after

-- the answer on the part that stands from here to there
pub record AnswersPart (s : List ℕ) (from to L : ℕ) (out : List ℕ) (r : Option WrittenSpans) (after : List ℕ) : Type 0 where
  pub is : (w : List ℕ) → ShowsBytes s from to w → Answers w L out r after
