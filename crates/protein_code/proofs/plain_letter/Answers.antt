-- `protein_code::plain_letter` meets its contract: what stands at the number of the residues.

use Rattle.protein_code.proofs.plain_letter.Goals as goal

pub returns-then-turned : goal.returns-then-turned
returns-then-turned c = rw (c.if-turned.true, c.two.ensures.is, c.two-2.ensures.is)

pub returns : goal.returns
returns c = rw (c.if-turned.false, c.two.ensures.is, c.two-2.ensures.is)
