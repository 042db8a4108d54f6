-- `judge_features::is_source` meets its contract, by kinds.
use mathlib.Core.Path.{refl}
use mathlib.Core.Logic.{inl, inr}
use Rattle.paper.specs.Rules.{dna, rna, aa}
use Rattle.judge_features.proofs.Keys.{source_named}
use Rattle.judge_features.proofs.is_source.Goals as goal

pub returns-in-Dna : goal.returns-in-Dna
returns-in-Dna c =
    elim c.in-Dna.is [
      | inl e ↦ rw e (source_named dna c.same.result refl (λ v h. h) c.same.ensures)
      | inr e ↦ rw e (source_named rna c.same.result refl (λ v h. h) c.same.ensures)
    ]

pub returns-in-Aa : goal.returns-in-Aa
returns-in-Aa c = rw c.in-Aa.is (source_named aa c.same-in-Aa.result refl (λ v h. h) c.same-in-Aa.ensures)
