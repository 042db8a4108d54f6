use Rattle.protein_codons.proofs.Readings.{filling_start, filling_full, filling_done, filling_next, fewer_steps}
use Rattle.protein_codons.proofs.CodingText.fill.Goals as goal

pub loop-x-init : goal.loop-x-init
loop-x-init c = filling_start c.requires

pub returns-in_default : goal.returns-in_default
returns-in_default c = filling_done c.loop-x.invariant c.loop-x-test.true c.in_default.ensures

pub loop-x-smaller : goal.loop-x-smaller
loop-x-smaller c = fewer_steps c.loop-x.invariant c.loop-x-test.true c.args.self.now.top_in_bounds c.in-Some.ensures c.opened-x.ensures

pub loop-x-preserved : goal.loop-x-preserved
loop-x-preserved c = filling_next c.loop-x.invariant c.loop-x-test.true c.args.self.now.top_in_bounds c.in-Some.ensures c.opened-x.ensures

pub returns : goal.returns
returns c = filling_full c.loop-x.invariant c.loop-x-test.false
