-- `judge_texts::judge_residues` meets its contract, by kinds.
use Rattle.std.proofs.Common.{refl}
use Rattle.paper.specs.Rules.{dna, rna, aa}
use Rattle.judge_texts.proofs.Sums.{residues_of_lem}
use Rattle.judge_texts.proofs.judge_residues.Goals as goal

pub returns-in-Dna : goal.returns-in-Dna
returns-in-Dna c = residues_of_lem dna c.in-Dna.is refl refl (λ v h. h) c.bytes_of-w.ensures c.judge_symbols.ensures

pub returns-in-Rna : goal.returns-in-Rna
returns-in-Rna c = residues_of_lem rna c.in-Rna.is refl refl (λ v h. h) c.bytes_of-w.ensures c.judge_symbols-in-Rna.ensures

pub returns-in-Aa : goal.returns-in-Aa
returns-in-Aa c =
    residues_of_lem aa c.in-Aa.is refl refl (λ v h. h) c.bytes_of-w.ensures c.judge_symbols-in-Aa.ensures
