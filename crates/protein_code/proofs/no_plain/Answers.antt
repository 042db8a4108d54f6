-- `protein_code::no_plain` meets its contract.
use Rattle.protein_code.proofs.Plain.{plain_told}
use Rattle.protein_code.proofs.no_plain.Goals as goal

pub returns : goal.returns
returns c =
    let args = c.args in
    plain_told args.b c.equal.ensures c.equal-2.ensures
    c.equal-3.ensures c.equal-4.ensures c.equal-5.ensures
