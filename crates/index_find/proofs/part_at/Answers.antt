-- `index_find::part_at` meets its contract.
use native.Mathlib.Omega.{arith}
use mathlib.Core.Path.{refl}
use Rattle.index_find.proofs.Numbers.{part_found}
use Rattle.index_find.proofs.part_at.Goals as goal

pub returns : goal.returns
returns c =
    part_found c.number_at-from.ensures.is c.past.ensures (omega arith) c.number_at-size.ensures.is refl refl
