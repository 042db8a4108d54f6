-- What is promised of a translation that is written.
use Rattle.std.specs.Prelude.{ℕ, ◌+◌, ◌*◌, ◌≤◌, ◌≡◌, List, length, take, Result, Ok, Err}
use Rattle.std.proofs.lemmas.List.Edits.{sets}
use Rattle.paper.specs.Locations.{Location}
use Rattle.paper.specs.Translation.{Code, letters, drop_stop}
use Rattle.paper.specs.Answers.{front}
use Rattle.protein_codons.specs.declared.Reading.{Reading}
use Rattle.protein_codons.specs.Reading.{Codes, TextLeft}
use Rattle.protein_codons.specs.Letters.{letters_of}
use Rattle.protein_measure.specs.Measuring.{Measured}
use Rattle.protein_measure.specs.declared.Untranslated.{Untranslated}

-- ---- the codons that stand whole in a span between two places, with the letters l

-- where the first k stood from a place on, the first n do now
pub record LaysLettersOn (l : List ℕ) (from k n : ℕ) (before after : List ℕ) : Type 0 where
  pub size : length after ≡ length before
  pub is : (out : List ℕ) → before ≡ sets out from (take k l) → after ≡ sets out from (take n l)

-- the first n stand from a place on, before another
pub record LaysLetters (low high : ℕ) (l : List ℕ) (from count n : ℕ) (out after : List ℕ) : Type 0 where
  pub within : low + 3 * n ≤ high
  pub inside : from + n ≤ count
  pub is : after ≡ sets out from (take n l)

-- ---- in lent room

-- the first letters that are left stand at the front
pub record PutsLetters (gc : Code) (s loc : List ℕ) (L : ℕ) (x : Reading) (count : ℕ) (out after : List ℕ) : Type 0 where
  pub says : (text : List ℕ) → TextLeft s loc L x text → count ≤ length (letters gc text) → after ≡ front (take count (letters gc text)) out

-- "Success writes the answer at the front and leaves the rest."; a refusal "changes no lent output"
abbrev pub after_of : List ℕ → List ℕ → Result ℕ Untranslated → List ℕ
after_of l out (Ok n) = front (drop_stop l) out
after_of l out (Err e) = out

pub record WritesTranslation (gc : Code) (s loc : List ℕ) (L start : ℕ) (out : List ℕ) (r : Result ℕ Untranslated) (after : List ℕ) : Type 0 where
  pub says : (t : Location) → Codes s loc L t → Measured (letters_of gc s start t) (length out) r × (after ≡ after_of (letters_of gc s start t) out r)
