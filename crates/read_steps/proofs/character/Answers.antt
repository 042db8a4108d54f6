-- `read_steps::character` meets its contract: a byte that stands for itself, or one of the five entities.
use Rattle.read_steps.proofs.Letters.{letter_reads}
use Rattle.read_steps.proofs.character.Goals as goal

pub returns : goal.returns
returns c =
    let args = c.args in
    let plain = c.plain-a in
    let lit = c.lit in
    let either = c.either-b in
    let lit2 = c.lit-2 in
    let either2 = c.either-c in
    let lit3 = c.lit-3 in
    let either3 = c.either-d in
    letter_reads args.high plain.ensures lit.ensures either.ensures lit2.ensures either2.ensures lit3.ensures
    either3.ensures c.lit-4.ensures c.either-e.ensures
    c.lit-5.ensures c.either.ensures
