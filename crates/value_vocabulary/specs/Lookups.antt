-- What is promised of a look-up: it holds of whichever text as read the raw part is written from.
use Rattle.std.specs.Prelude.{ℕ, ◌≡◌, List, length}
use Rattle.paper.specs.Bytes.{bytes, raw}
use Rattle.paper.specs.Vocabulary.{Row, counted}
use Rattle.paper.specs.Rules.{Kind, kind_name, upper_in, RowOf}
use Rattle.value_words.specs.Reading.{KindIs}
use Rattle.value_words.specs.declared.Molecule.{Molecule}
use Rattle.value_dictionary.specs.Texts.{PlaceOf}
use Rattle.value_vocabulary.specs.Tables.{name_texts, standing_of, needs_at, standing_at, Few}

-- the number of a qualifier's name
pub record NameNumber (w : List ℕ) (r : ℕ) : Type 0 where
  pub says : (v : List ℕ) → w ≡ raw v → PlaceOf name_texts v r

-- ---- the row of a key

-- how each name that counts stands in the row, and how many are required: all that a rule asks
pub record RowStands (k : Kind) (t : List ℕ) (row : ℕ) (r : Row) : Type 0 where
  pub few : Few r.required
  pub needs : needs_at t row ≡ length r.required
  pub stands : (v : List ℕ) (j : ℕ) → PlaceOf name_texts v j → standing_at t row j ≡ standing_of r (counted (upper_in k) v)

-- of a key that reads v: the place of its row, or 0
pub record RowIs (k : Kind) (t v : List ℕ) (row : ℕ) : Type 0 where
  pub known : ¬ (row ≡ 0) → (r : Row) × RowOf k v r × RowStands k t row r
  pub unknown : row ≡ 0 → (r : Row) → ¬ RowOf k v r

-- in a sequence of whichever kind this is
pub record FindsRow (t w : List ℕ) (kind : Molecule) (row : ℕ) : Type 0 where
  pub says : (k : Kind) → KindIs (bytes (kind_name k)) kind → (v : List ℕ) → w ≡ raw v → RowIs k t v row
