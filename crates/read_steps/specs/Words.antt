-- Bytes of a text as one number.
use Rattle.std.specs.Prelude.{ℕ, ◌+◌, ◌*◌, ◌≡◌, List, get_or}
use Rattle.read_bytes.specs.Numbers.{LowFirst}

-- r is the number of the four bytes from `at` on, the first lowest
pub record Four (s : List ℕ) (at r : ℕ) : Type 0 where
  pub low : ℕ
  pub high : ℕ
  pub first : LowFirst (get_or s at 0) (get_or s (at + 1) 0) low
  pub second : LowFirst (get_or s (at + 2) 0) (get_or s (at + 3) 0) high
  pub is : r ≡ low + 65536 * high

-- of the eight bytes
pub record Eight (s : List ℕ) (at r : ℕ) : Type 0 where
  pub low : ℕ
  pub high : ℕ
  pub first : Four s at low
  pub second : Four s (at + 4) high
  pub is : r ≡ low + 4294967296 * high
