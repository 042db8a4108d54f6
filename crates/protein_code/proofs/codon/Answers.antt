-- `protein_code::codon` meets its contract: each set has the bases of its letter, so the letter of the sets is that of the codon.
use Rattle.std.proofs.Common.{◌∙◌}
use Rattle.protein_code.proofs.codon.Goals as goal

pub returns : goal.returns
returns c =
    c.letter.ensures
    ∙ rw (c.set_of.ensures.bases, c.set_of-2.ensures.bases, c.set_of-3.ensures.bases)
