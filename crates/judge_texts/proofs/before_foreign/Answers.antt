-- `judge_texts::before_foreign` meets its contract, by kinds.
use Rattle.std.proofs.Common.{refl, inl, inr}
use Rattle.paper.specs.Rules.{dna, rna, aa}
use Rattle.judge_texts.proofs.Sizes.{scans_by}
use Rattle.judge_texts.proofs.before_foreign.Goals as goal

pub returns-in-Dna : goal.returns-in-Dna
returns-in-Dna c =
    elim c.in-Dna.is [
      | inl e ↦ rw e (scans_by dna refl (λ j o. o) c.symbols.ensures)
      | inr e ↦ rw e (scans_by rna refl (λ j o. o) c.symbols.ensures)
    ]

pub returns-in-Aa : goal.returns-in-Aa
returns-in-Aa c = rw c.in-Aa.is (scans_by aa refl (λ j o. o) c.symbols-in-Aa.ensures)
