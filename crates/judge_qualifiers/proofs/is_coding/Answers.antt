-- `judge_qualifiers::is_coding` meets its contract, by kinds.
use mathlib.Core.Path.{refl}
use Rattle.paper.specs.Rules.{dna, rna}
use Rattle.judge_qualifiers.proofs.Keys.{coding_named, coding_aa, coding_other}
use Rattle.judge_qualifiers.proofs.is_coding.Goals as goal

pub returns-in-Dna : goal.returns-in-Dna
returns-in-Dna c = rw c.in-Dna.is (coding_named dna c.same.result refl (λ v h. h) c.same.ensures)

pub returns-in-Rna : goal.returns-in-Rna
returns-in-Rna c = rw c.in-Rna.is (coding_named rna c.same-in-Rna.result refl (λ v h. h) c.same-in-Rna.ensures)

pub returns-in-Aa : goal.returns-in-Aa
returns-in-Aa c = rw c.in-Aa.is coding_aa

pub returns-in-Other : goal.returns-in-Other
returns-in-Other c = rw c.in-Other.is coding_other
