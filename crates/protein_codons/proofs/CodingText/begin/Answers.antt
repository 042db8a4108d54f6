-- The whole coding text, and then what is left of it.
use Rattle.protein_codons.proofs.Readings.{begins_none, begins_skip}
use Rattle.protein_codons.proofs.CodingText.begin.Goals as goal

pub returns-then-self-eq0 : goal.returns-then-self-eq0
returns-then-self-eq0 c =
    let coding = c.args.self.now.of in
    begins_none coding.r.now coding.loc.now coding.top c.start.result c.start.ensures c.if-self-eq0.true

pub returns : goal.returns
returns c =
    let coding = c.args.self.now.of in
    begins_skip coding.r.now coding.loc.now coding.top c.start.result c.start.ensures c.skip.ensures
