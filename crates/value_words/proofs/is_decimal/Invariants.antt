-- `value_words::is_decimal` meets its contract. The loop's invariant: the digits passed have the value `v`, and the bytes are the number
-- `n` exactly where the rest makes it one.
use Prim.Native.Nat.{◌≤◌}
use Rattle.value_words.proofs.Numbers.{Upto}
use Rattle.value_words.proofs.is_decimal.Given as goal

abbrev pub invariant-loop-b : goal.invariant-loop-b
invariant-loop-b l = (l.v ≤ l.n) × Upto l.w l.n l.b-index l.v
