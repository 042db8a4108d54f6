-- `value_dictionary::slot_of` meets its contract: the product is below 2 ^ 48, and the slot is under the mask.
use Prim.Native.Nat.{◌+◌, ◌*◌, ◌/◌, ◌≤◌}
use native.Mathlib.Nat.{mul-le-mul}
use native.Mathlib.Omega.{arith}
use lib.Bits.{and_le_r}
use Rattle.value_dictionary.proofs.slot_of.Goals as goal

pub overflow_mul-result : goal.overflow_mul-result
overflow_mul-result c =
    let x = c.args in
    let p = c.byte_at.result + 256 * c.byte_at-2.result + 65536 * c.byte_at-3.result in
    let bytes : p ≤ 16777215 = omega (arith, c.byte_at.ensures.1, c.byte_at-2.ensures.1, c.byte_at-3.ensures.1) in
    let low : x.factor ≤ 16777215 = omega arith in
    omega (arith, mul-le-mul bytes low)

pub returns : goal.returns
returns c =
    let x = c.args in
    let p = c.byte_at.result + 256 * c.byte_at-2.result + 65536 * c.byte_at-3.result in (
      rw (c.byte_at.ensures.0, c.byte_at-2.ensures.0, c.byte_at-3.ensures.0),
      and_le_r (p * x.factor / 16777216) x.mask,
    )
