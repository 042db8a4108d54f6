-- What is promised of a value that is compared with a translation.
use Rattle.std.specs.Prelude.{ℕ, ◌+◌, ◌≤◌, ◌<◌, ◌≡◌, Bool, true, false, List, length, get_or}
use Rattle.paper.specs.Bytes.{raw}
use Rattle.paper.specs.Locations.{Location}
use Rattle.paper.specs.Translation.{Code, drop_stop, has_stop_inside}
use Rattle.protein_codons.specs.Reading.{Codes}
use Rattle.protein_codons.specs.Letters.{letters_of, Clear}

-- ---- the codons that stand whole in a span between two places, with the letters l

-- the first n are no stop, and the value has them from a place on
pub record Same (low high : ℕ) (l value : List ℕ) (from n : ℕ) : Type 0 where
  pub front : Clear low high l n
  pub inside : from + n ≤ length value
  pub same : (k : ℕ) → k < n → get_or value (from + k) 0 ≡ get_or l k 0

-- ---- rule 28

-- neither is the value "different from the translation", nor does a stop stand inside
pub record RightValue (l v : List ℕ) : Type 0 where
  pub clear : has_stop_inside l ≡ false
  pub same : v ≡ drop_stop l

abbrev pub RightIf : List ℕ → List ℕ → Bool → Type 0
RightIf l v true = RightValue l v
RightIf l v false = RightValue l v → ⊥

-- of whichever location and value as read the bytes are written from
pub record Compares (gc : Code) (s loc : List ℕ) (L start : ℕ) (value : List ℕ) (r : Bool) : Type 0 where
  pub says : (t : Location) → Codes s loc L t → (v : List ℕ) → value ≡ raw v → RightIf (letters_of gc s start t) v r
