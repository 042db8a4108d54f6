-- `value_dictionary::byte_at` meets its contract: a byte is below 256.
use Prim.Native.Nat.{◌+◌}
use lib.Seq.{get_or-drop}
use mathlib.Core.Path.{sym}
use native.Mathlib.Omega.{arith}
use Rattle.value_dictionary.proofs.byte_at.Goals as goal

pub overflow_cast-result : goal.overflow_cast-result
overflow_cast-result c = omega (arith, c.type_inv.t (c.args.base + c.args.i))

pub returns : goal.returns
returns c =
    let args = c.args in (
      sym (get_or-drop args.base args.t.now args.i 0),
      omega (arith, c.type_inv.t (args.base + args.i)),
    )
