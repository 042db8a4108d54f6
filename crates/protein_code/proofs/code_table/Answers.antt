-- `protein_code::code_table` meets its contract: the table's rule, by tests of all its bytes.
use Rattle.std.proofs.Common.{refl}
use Rattle.paper.specs.Translation.{code1}
use Rattle.protein_code.proofs.Codes.{code_right}
use Rattle.protein_code.proofs.code_table.Goals as goal

pub returns : goal.returns
returns c =
    code_right code1 _ refl (record { small = refl; bases = refl; plain = refl; stops = refl })
    (record { small = refl; bases = refl; plain = refl; stops = refl }) refl refl
