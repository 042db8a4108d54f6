-- A letter is left, or none.
use Rattle.protein_codons.proofs.Readings.{no_letter, some_letter}
use Rattle.protein_codons.proofs.CodingText.ends.Goals as goal

pub returns-in-None : goal.returns-in-None
returns-in-None c = no_letter c.in-None.ensures.says

pub returns-in-Some : goal.returns-in-Some
returns-in-Some c = some_letter c.in-Some.ensures.says
