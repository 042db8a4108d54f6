-- A codon residue by residue.
use Rattle.protein_code.specs.Tables.{code_of}
use Rattle.protein_codons.proofs.Readings.{none_left, one_left, two_left, three_bases}
use Rattle.protein_codons.proofs.CodingText.slowly.Goals as goal

pub returns-in_err-a : goal.returns-in_err-a
returns-in_err-a c = rw c.from_residual.ensures (record { says = none_left (code_of c.args.self.now.of.code.now) c.in_err-a.ensures.says })

pub returns-in_err-b : goal.returns-in_err-b
returns-in_err-b c =
    rw c.from_residual-in_err-b.ensures
    (record { says = one_left c.in_ok-a.ensures.says (code_of c.args.self.now.of.code.now) c.in_err-b.ensures.says })

pub returns-in_err-c : goal.returns-in_err-c
returns-in_err-c c =
    rw c.from_residual-in_err-c.ensures
    (record { says = two_left c.in_ok-a.ensures.says c.in_ok-b.ensures.says (code_of c.args.self.now.of.code.now) c.in_err-c.ensures.says })

pub returns : goal.returns
returns c = record { says = three_bases c.in_ok-a.ensures.says c.in_ok-b.ensures.says c.in_ok-c.ensures.says c.letter.ensures }
