-- A span as a reading: none of it where it ends before it starts, else all of it.
use Rattle.protein_codons.proofs.Residues.{opens_none, opens_some}
use Rattle.protein_codons.proofs.opened.Goals as goal

pub returns-then-x : goal.returns-then-x
returns-then-x c = opens_none c.args.x c.args.walk c.if-x.true

pub returns : goal.returns
returns c = opens_some c.args.x c.args.walk c.requires c.if-x.false
