-- A word at a place of a text.
use Rattle.std.specs.Prelude.{ℕ, ◌+◌, ◌≤◌, ◌≡◌, Bool, true, false, List, ◌++◌, length, drop}

-- the word x stands in s, at the place `at`
pub record StandsAt (x s : List ℕ) (at : ℕ) : Type 0 where
  pub inside : at + length x ≤ length s
  pub here : drop at s ≡ x ++ drop (at + length x) s

-- r says whether it does
pub record There (x s : List ℕ) (at : ℕ) (r : Bool) : Type 0 where
  pub yes : r ≡ true → StandsAt x s at
  pub no : r ≡ false → ¬ StandsAt x s at
