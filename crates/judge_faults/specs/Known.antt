-- What is known of a sequence while its features are judged.
use Rattle.std.specs.Prelude.{ℕ, ◌+◌, ◌≡◌, List, length}
use Rattle.paper.specs.Bytes.{raw, leading}
use Rattle.paper.specs.Tree.{Sequence}
use Rattle.paper.specs.Rules.{L, Kind, dna, rna, aa, IsKind, is_symbol}
use Rattle.value_words.specs.Reading.{KindIs}
use Rattle.value_words.specs.declared.Molecule as code
use Rattle.value_words.specs.declared.Molecule.TheVariants as kind
use Rattle.walk_steps.specs.Stands.{IsPart}
use Rattle.judge_faults.specs.declared.Known.{Known}

-- the kind of the paper that a kind of the code stands for
abbrev pub CodeOf : code.Molecule → Kind → Type 0
CodeOf kind.Dna k = k ≡ dna
CodeOf kind.Rna k = k ≡ rna
CodeOf kind.Aa k = k ≡ aa
CodeOf kind.Other k = ⊥

-- what is known of the sequence q
pub record Knows (s : List ℕ) (q : Sequence ℕ) (x : Known) : Type 0 where
  pub kind : KindIs q.moltype.read x.kind
  pub size : x.top ≡ L q
  -- the place of the first residue that is no symbol; where all are symbols it is behind them
  pub foreign : (k : Kind) → IsKind k q → x.foreign ≡ q.residues.place + length (raw (leading (is_symbol k) q.residues.read))
  pub residues : IsPart s q.residues x.residues
