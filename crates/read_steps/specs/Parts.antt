-- The bytes of a part, which is given by its place and the place behind it.
use Rattle.std.specs.Prelude.{ℕ, ◌+◌, ◌<◌, ◌≡◌, ◌⊎◌, List, [], ◌++◌, length, drop}

-- where a text is written from here to there, r are its bytes; where there is no such stretch of s, there are none
pub record ShowsBytes (s : List ℕ) (from to : ℕ) (r : List ℕ) : Type 0 where
  pub is : (w : List ℕ) → drop from s ≡ w ++ drop to s → to ≡ from + length w → r ≡ w
  pub none : (length s < to) ⊎ (to < from) → r ≡ []
