-- What is promised of a translation that is measured.
use Rattle.std.specs.Prelude.{ℕ, ◌+◌, ◌≤◌, ◌<◌, ◌≡◌, true, false, List, length, Option, None, Some, Result, Ok, Err}
use Rattle.paper.specs.Locations.{Location}
use Rattle.paper.specs.Translation.{Code, drop_stop, has_stop_inside}
use Rattle.protein_codons.specs.Reading.{Codes}
use Rattle.protein_codons.specs.Letters.{letters_of}
use Rattle.protein_measure.specs.declared.Untranslated.{Untranslated}
use Rattle.protein_measure.specs.declared.Untranslated.TheVariants as untranslated

-- m letters were counted in a room: that many, or more than it holds
abbrev pub Tally : (room m : ℕ) → Option ℕ → Type 0
Tally room m None = room < m
Tally room m (Some n) = (n ≡ m) × (m ≤ room)

-- a count that is given is in the room
abbrev pub InRoom : ℕ → Option ℕ → Type 0
InRoom room None = Unit {0}
InRoom room (Some n) = n ≤ room

-- k letters more
pub record Counted (room : ℕ) (a : Option ℕ) (k : ℕ) (b : Option ℕ) : Type 0 where
  pub within : InRoom room b
  pub more : (m : ℕ) → Tally room m a → Tally room (m + k) b

-- ".. 37 stop inside; 34 lent output shorter than the answer": of the letters l, for room of so many bytes
abbrev pub Measured : List ℕ → ℕ → Result ℕ Untranslated → Type 0
Measured l room (Ok n) = (has_stop_inside l ≡ false) × (n ≡ length (drop_stop l)) × (n ≤ room)
Measured l room (Err untranslated.Short) = (has_stop_inside l ≡ false) × (room < length (drop_stop l))
Measured l room (Err untranslated.Stop) = has_stop_inside l ≡ true

-- a length that is given is in the room, whatever the bytes are
abbrev pub SizeWithin : ℕ → Result ℕ Untranslated → Type 0
SizeWithin room (Ok n) = n ≤ room
SizeWithin room (Err e) = Unit {0}

pub record Measures (gc : Code) (s loc : List ℕ) (L start room : ℕ) (r : Result ℕ Untranslated) : Type 0 where
  pub within : SizeWithin room r
  pub says : (t : Location) → Codes s loc L t → Measured (letters_of gc s start t) room r
