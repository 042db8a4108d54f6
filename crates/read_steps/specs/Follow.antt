-- What may follow a form.
use Rattle.std.specs.Prelude.{ℕ, ◌≡◌, Bool, true, false, ◌&&◌, not, cond, List, [], ◌∷◌, ◌++◌, eqb}
use Rattle.paper.specs.Bytes.{bytes, is_blank}

abbrev pub anything : List ℕ → Type 0
anything z = Unit {0}

abbrev pub nothing : List ℕ → Type 0
nothing z = z ≡ []

-- no byte of the class comes first
abbrev pub Not : (ℕ → Bool) → List ℕ → Type 0
Not f [] = Unit {0}
Not f (b ∷ z) = f b ≡ false

-- z starts with one of these words
pub data Starts : List (List ℕ) → List ℕ → Type 0 where
  first : {k : List ℕ} {l : List (List ℕ)} {z : List ℕ} (y : List ℕ) → z ≡ k ++ y → Starts (k ∷ l) z
  later : {k : List ℕ} {l : List (List ℕ)} {z : List ℕ} → Starts l z → Starts (k ∷ l) z

-- what is left behind the blanks at the front
abbrev pub skip : List ℕ → List ℕ
skip [] = []
skip (b ∷ z) = cond (is_blank b) (skip z) (b ∷ z)

-- a word that starts with no blank
abbrev pub NoBlankFirst : List ℕ → Type 0
NoBlankFirst [] = ⊥
NoBlankFirst (b ∷ x) = is_blank b ≡ false

-- ---- computed tests on words

-- two words differ at some place
abbrev pub clash : List ℕ → List ℕ → Bool
clash [] y = false
clash (a ∷ x) [] = false
clash (a ∷ x) (b ∷ y) = cond (eqb a b) (clash x y) true

-- a word clashes with each of these
abbrev pub clashes : List ℕ → List (List ℕ) → Bool
clashes x [] = true
clashes x (k ∷ l) = clash x k && clashes x l

-- none of these starts with a byte of the class
abbrev pub sharp : (ℕ → Bool) → List (List ℕ) → Bool
sharp f [] = true
sharp f ([] ∷ l) = false
sharp f ((b ∷ k) ∷ l) = not (f b) && sharp f l

-- an end tag follows
abbrev pub closing : List (List ℕ)
closing = bytes "</" ∷ []

-- what elements of one name may stand before: words that all clash with their tag, and start with no blank
pub record StandsBefore (name : List ℕ) (l : List (List ℕ)) : Type 0 where
  pub clash : clashes (bytes "<" ++ name) l ≡ true
  pub sharps : sharp is_blank l ≡ true
