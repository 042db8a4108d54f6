-- `value_words::is_number` meets its contract: digits are written as they read, so the test on the bytes tells of the text.
use Rattle.paper.specs.Values.{Number}
use Rattle.value_words.proofs.Read.{tells_read}
use Rattle.value_words.proofs.Numbers.{raw_number}
use Rattle.value_words.proofs.is_number.Goals as goal

pub returns : goal.returns
returns c = let n = c.args.n in tells_read (Number n) (raw_number n) c.is_decimal.result c.is_decimal.ensures
