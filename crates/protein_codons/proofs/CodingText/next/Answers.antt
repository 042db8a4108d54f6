-- The next whole codon: of the current span where it has one.
use Rattle.protein_code.specs.Tables.{code_of}
use Rattle.protein_codons.proofs.Readings.{next_letter}
use Rattle.protein_codons.proofs.CodingText.next.Goals as goal

pub returns : goal.returns
returns c = record { says = next_letter (code_of c.args.self.now.of.code.now) c.requires c.onward.ensures c.letter_at.ensures }
