-- `read_steps::eight` meets its contract: two halves, the second with its weight.
use native.Mathlib.Omega.{arith}
use mathlib.Core.Path.{refl}
use Rattle.read_steps.proofs.Words.{four_small}
use Rattle.read_steps.proofs.eight.Goals as goal

pub overflow_mul-result : goal.overflow_mul-result
overflow_mul-result c = omega (arith, four_small c.four-2.ensures)

pub overflow_add-result : goal.overflow_add-result
overflow_add-result c = omega (arith, four_small c.four.ensures, four_small c.four-2.ensures)

pub returns : goal.returns
returns c =
    record {
      low = c.four.result;
      high = c.four-2.result;
      first = c.four.ensures;
      second = c.four-2.ensures;
      is = refl;
    }
