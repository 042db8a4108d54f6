-- `value_residues::ahead` meets its contract: 64 bytes, or one character.
use Rattle.std.proofs.Common.{arith}
use Rattle.value_residues.proofs.Counting.{ahead_64, ahead_same, ahead_other}
use Rattle.value_residues.proofs.ahead.Goals as goal

pub returns-then-same-le64 : goal.returns-then-same-le64
returns-then-same-le64 c = ahead_64 (omega arith) (omega arith) c.same_of_64-same.ensures

pub returns-then-w-at : goal.returns-then-w-at
returns-then-w-at c = ahead_same (omega arith) c.next_character-next.ensures c.if-w-at.true

pub returns : goal.returns
returns c = ahead_other (omega arith) c.next_character-next.ensures c.if-w-at.false
