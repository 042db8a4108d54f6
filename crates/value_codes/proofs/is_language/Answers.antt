-- `value_codes::is_language` meets its contract: such letters are written as they read.
use mathlib.Core.Path.{refl}
use Rattle.paper.specs.Values.{is_lower}
use Rattle.value_codes.proofs.Pairs.{tells_two}
use Rattle.value_codes.proofs.is_language.Goals as goal

pub returns : goal.returns
returns c = tells_two is_lower refl c.is_two.result c.is_two.ensures
