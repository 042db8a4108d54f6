-- `value_codes::is_office` meets its contract: such letters are written as they read.
use mathlib.Core.Path.{refl}
use Rattle.paper.specs.Values.{is_upper}
use Rattle.value_codes.proofs.Pairs.{tells_two}
use Rattle.value_codes.proofs.is_office.Goals as goal

pub returns : goal.returns
returns c = tells_two is_upper refl c.is_two.result c.is_two.ensures
