-- Plain codons: a number for each.
use Rattle.std.specs.Prelude.{◌≡◌, ℕ, ◌+◌, ◌*◌, ◌/◌, ◌%◌, ◌<◌, slice_index}
use Rattle.paper.specs.Bytes.{bytes}

-- the plain bases, by number
abbrev pub base : ℕ → ℕ
base i = slice_index (bytes "acgt") i

pub record Plain (b : ℕ) : Type 0 where
  pub number : ℕ
  pub small : number < 4
  pub is : b ≡ base number

-- bits 24 to 31 of a product: another number for each plain codon, whatever w is
abbrev pub plain_number : (x y z w : ℕ) → ℕ
plain_number x y z w = (x + 256 * y + 65536 * (z + 256 * w)) * 4002048 / 16777216 % 256
