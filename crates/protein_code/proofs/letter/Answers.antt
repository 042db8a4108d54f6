-- `protein_code::letter` meets its contract: the index is below 4,096 and gives its three sets back.
use Rattle.std.proofs.Common.{◌≡◌, ◌+◌, ◌*◌, ◌/◌, ◌%◌, ◌∙◌, arith}
use Rattle.protein_code.proofs.letter.Goals as goal

pub returns : goal.returns
returns c =
    let a = c.args in
    let i = a.x * 256 + a.y * 16 + a.z in
    let first : i / 256 ≡ a.x = omega arith in
    let second : i / 16 % 16 ≡ a.y = omega arith in
    let third : i % 16 ≡ a.z = omega arith in
    c.requires.coded.answer i (omega arith) ∙ rw (first, second, third)
