-- The answers of the inner crates in numbers.
use Rattle.std.specs.Prelude.{ℕ, ◌≤◌, ◌<◌, ◌≡◌, Bool, true, false, List, length, None, Some, Result, Ok, Err}
use Rattle.paper.specs.Locations.{Location, mark, spans, operator_number, breaks25}
use Rattle.paper.specs.Answers.{triples, front}
use Rattle.read_layout.specs.Says.{Lays, Refuses}
use Rattle.location_judge.specs.Judging.{Spells, Judges}
use Rattle.location_judge.specs.declared.judging.Facts.{Facts}
use Rattle.paper.specs.Translation.{code1}
use Rattle.protein_compare.specs.Comparing.{Compares}
use Rattle.protein_write.specs.Writing.{WritesTranslation}
use Rattle.protein_measure.specs.declared.Untranslated.{Untranslated}
use Rattle.protein_measure.specs.declared.Untranslated.TheVariants as untranslated

pub data LayoutNumbers (w : List ℕ) : (number place : ℕ) → Type 0 where
  laid : Lays w → LayoutNumbers w 0 0
  refused : {n p : ℕ} → Refuses w n p → LayoutNumbers w n p

pub data LocationNumbers (s : List ℕ) (L : ℕ) : (number wrong complemented unjudged : ℕ) → Type 0 where
  bad : Judges s L None → LocationNumbers s L 24 0 0 0
  is : (f : Facts) {wrong complemented unjudged : ℕ} → Judges s L (Some f) → wrong ≡ mark f.wrong 1 → complemented ≡ mark f.complemented 1
      → unjudged ≡ mark f.unjudged 1 → LocationNumbers s L 0 wrong complemented unjudged

-- of the location that the bytes are, if they are one; a refusal writes nothing
pub data SpansNumbers (s : List ℕ) (L : ℕ) (out : List ℕ) : (number operator count : ℕ) (after : List ℕ) → Type 0 where
  bad : ((t : Location) → Spells s t → ⊥) → SpansNumbers s L out 24 0 0 out
  wrong : (t : Location) → Spells s t → breaks25 L t ≡ true → SpansNumbers s L out 25 0 0 out
  short : (t : Location) → Spells s t → breaks25 L t ≡ false → length out < length (triples (spans t)) → SpansNumbers s L out 34 0 0 out
  are : (t : Location) → Spells s t → breaks25 L t ≡ false → length (triples (spans t)) ≤ length out
      → SpansNumbers s L out 0 (operator_number t) (length (spans t)) (front (triples (spans t)) out)

-- the number and length of each answer
abbrev pub size_number : Result ℕ Untranslated → ℕ
size_number (Ok n) = 0
size_number (Err untranslated.Short) = 34
size_number (Err untranslated.Stop) = 37

abbrev pub size_length : Result ℕ Untranslated → ℕ
size_length (Ok n) = n
size_length (Err untranslated.Short) = 0
size_length (Err untranslated.Stop) = 0

pub record TranslationNumbers (s loc : List ℕ) (L start : ℕ) (out : List ℕ) (number length : ℕ) (after : List ℕ) : Type 0 where
  pub says : Result ℕ Untranslated
  pub writes : WritesTranslation code1 s loc L start out says after
  pub number_is : number ≡ size_number says
  pub length_is : length ≡ size_length says

pub record RightNumbers (s loc : List ℕ) (L start : ℕ) (value : List ℕ) (number : ℕ) : Type 0 where
  pub says : Bool
  pub compares : Compares code1 s loc L start value says
  pub number_is : number ≡ mark says 1
