-- Bytes and tests as numbers.
use Rattle.std.specs.Prelude.{ℕ, ◌+◌, ◌*◌, ◌<◌, ◌≡◌, Bool, cond}

-- r is the number of two bytes, the first lowest
pub record LowFirst (a b r : ℕ) : Type 0 where
  pub is : r ≡ a + 256 * b
  pub low : a < 256
  pub high : b < 256

-- 1 where it holds, else 0
abbrev pub flag : Bool → ℕ
flag b = cond b 1 0
