-- A 32-bit number in bytes, the lowest first.
use Rattle.std.specs.Prelude.{ℕ, ◌+◌, ◌*◌, List, [], ◌∷◌, drop}

-- the number that bytes begin with; 0 where they are less than four
abbrev pub low_first : List ℕ → ℕ
low_first [] = 0
low_first (a ∷ []) = 0
low_first (a ∷ b ∷ []) = 0
low_first (a ∷ b ∷ c ∷ []) = 0
low_first (a ∷ b ∷ c ∷ d ∷ l) = a + 256 * b + 65536 * c + 16777216 * d

abbrev pub number_at : List ℕ → ℕ → ℕ
number_at x at = low_first (drop at x)
