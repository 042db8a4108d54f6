use Rattle.protein_codons.proofs.Readings.{skipped_none, skipped_one, skipped_all, skipped_end}
use Rattle.protein_codons.proofs.CodingText.skip.Goals as goal

pub loop-k-init : goal.loop-k-init
loop-k-init c = skipped_none c.requires

pub returns-in-None : goal.returns-in-None
returns-in-None c = skipped_all c.loop-k.invariant c.in-None.ensures.says c.loop-k.auto._k-end

pub loop-k-preserved : goal.loop-k-preserved
loop-k-preserved c = skipped_one c.loop-k.invariant c.in-Some.ensures.says

pub returns : goal.returns
returns c = skipped_end c.loop-k.auto._k-end c.loop-k-test.false c.loop-k.invariant
