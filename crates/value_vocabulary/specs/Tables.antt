-- The lent table of the vocabulary: dictionaries of texts, and rows.
use Rattle.std.specs.Prelude.{ℕ, ◌+◌, ◌*◌, ◌-◌, ◌/◌, ◌%◌, ◌^◌, ◌<◌, ◌≡◌, Bool, true, false, cond, List, [], ◌∷◌, ◌++◌, map, length, get_or, drop, ltb}
use Rattle.paper.specs.Bytes.{raw, same}
use Rattle.paper.specs.Lists.{◌∈◌}
use Rattle.paper.specs.Vocabulary.{Row, nucleotide_rows, nucleotide_names, amino_rows, older, is_one_of, counted}
use Rattle.value_dictionary.specs.Texts.{byte_of, pair_of, Dictionary}

-- r is the number at the place of w's own, 0 where w is none of the dictionary's texts
pub record RowIn (factor rows : ℕ) (t w : List ℕ) (r : ℕ) : Type 0 where
  pub is : (l : List (List ℕ)) → Dictionary factor 127 l t → (k : ℕ) → k < length l → w ≡ get_or l k [] → r ≡ pair_of t (rows + 2 * k)
  pub none : (l : List (List ℕ)) → Dictionary factor 127 l t → ((k : ℕ) → k < length l → ¬ (w ≡ get_or l k [])) → r ≡ 0

-- ---- the rows: how many names are required; then two bits for each name, of every other four names turned round

-- what a qualifier's name may be: those of section 6 by their number there, then the older names
abbrev pub name_texts : List (List ℕ)
name_texts = nucleotide_names ++ older

-- its number among the required names, from n on; `otherwise` where it is none of them
abbrev pub standing_in : (n : ℕ) → List (List ℕ) → (otherwise : ℕ) → List ℕ → ℕ
standing_in n [] otherwise w = otherwise
standing_in n (v ∷ l) otherwise w = cond (same w v) n (standing_in (n + 1) l otherwise w)

-- how a name stands in a row: 0 not allowed, 1 allowed, 2 the first that is required, 3 the second
abbrev pub standing_of : Row → List ℕ → ℕ
standing_of r w = standing_in 2 r.required (cond (is_one_of r.optional w) 1 0) w

abbrev pub needs_at : List ℕ → ℕ → ℕ
needs_at t row = byte_of t row

abbrev pub bits_at : List ℕ → ℕ → ℕ → ℕ
bits_at t row name = byte_of t (row + 1 + name / 4) / 2 ^ (2 * (name % 4)) % 4

abbrev pub crumb_at : List ℕ → ℕ → ℕ → ℕ
crumb_at t row name = cond (ltb (name % 8) 4) (bits_at t row name) (3 - bits_at t row name)

-- how the name of a number stands
abbrev pub standing_at : List ℕ → ℕ → ℕ → ℕ
standing_at t row name = cond (ltb name 85) (cond (ltb row 65536) (crumb_at t row name) 0) 0

-- no row requires three names, or one twice
abbrev pub Few : List (List ℕ) → Type 0
Few [] = Unit {0}
Few (v ∷ []) = Unit {0}
Few (v ∷ w ∷ []) = ¬ (w ≡ v)
Few (v ∷ w ∷ x ∷ l) = ⊥

-- at this place stands the row r, for names that count in upper case too or not
pub record HasRow (upper : Bool) (t : List ℕ) (row : ℕ) (r : Row) : Type 0 where
  pub near : row < 65536
  pub needs : needs_at t row ≡ length r.required
  pub stands : (j : ℕ) → j < length name_texts → crumb_at t row j ≡ standing_of r (counted upper (get_or name_texts j []))

-- the texts of the keys: of a kind with names in upper case the older names too
abbrev pub key_texts : Bool → List Row → List (List ℕ)
key_texts upper rows = map (λ (r : Row). r.key) rows ++ cond upper older []

-- what stands at the place of the row of a key that reads v: 0 where it has none
pub record RowFor (upper : Bool) (rows : List Row) (t : List ℕ) (v : List ℕ) (row : ℕ) : Type 0 where
  pub known : ¬ (row ≡ 0) → (r : Row) × r ∈ rows × (counted upper v ≡ r.key) × HasRow upper t row r
  pub unknown : row ≡ 0 → (r : Row) → r ∈ rows → ¬ (counted upper v ≡ r.key)

-- the keys of a kind, as a part of the table
pub record Keys (upper : Bool) (rows : List Row) (factor places : ℕ) (part t : List ℕ) : Type 0 where
  pub texts : Dictionary factor 127 (map raw (key_texts upper rows)) part
  pub placed : (k : ℕ) → k < length (key_texts upper rows) → RowFor upper rows t (get_or (key_texts upper rows) k []) (pair_of part (places + 2 * k))

-- ---- the table

-- the places and factors are those of src/tables.rt
pub record VocabularyTable (t : List ℕ) : Type 0 where
  pub names : Dictionary 13895407 255 (map raw name_texts) t
  pub nucleotides : Keys false nucleotide_rows 4094411 655 (drop 1234 t) t
  pub acids : Keys true amino_rows 4266913 499 (drop 1987 t) t
