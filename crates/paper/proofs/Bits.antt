-- Tests joined as numbers, without a branch.
use Prim.Native.Nat.{ℕ}
use native.Mathlib.Omega.{arith}
use mathlib.Core.Path.{◌≡◌}
use lib.Bits.{bit_or, and_le_l, and_le_r, or_add_and}

-- where neither of two numbers has a bit both are 0
pub or_none : (a b : ℕ) → bit_or a b ≡ 0 → (a ≡ 0) × (b ≡ 0)
or_none a b h = (omega (arith, h, or_add_and a b, and_le_l a b, and_le_r a b), omega (arith, h, or_add_and a b, and_le_l a b, and_le_r a b))
