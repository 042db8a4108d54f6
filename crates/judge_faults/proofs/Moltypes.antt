-- Kinds: what a moltype names, in the code and on the paper.
use Prim.Native.Nat.{ℕ}
use native.Mathlib.Omega.{arith}
use mathlib.Core.Path.{◌≡◌, refl, sym, ap, ◌∙◌}
use mathlib.Core.List.{List}
use lib.ListN.{get_or}
use Rattle.paper.specs.Rules.{Kind, dna, rna, aa}
use Rattle.value_words.specs.Reading.{KindIs, Names}
use Rattle.value_words.specs.declared.Molecule as code
use Rattle.value_words.specs.declared.Molecule.TheVariants as kind
use Rattle.judge_faults.specs.Known.{CodeOf}

-- a text names one kind
pub kind_once : (v : List ℕ) (j k : Kind) → Names v j → Names v k → j ≡ k
kind_once v dna dna h g = refl
kind_once v dna rna h g = let e : ◌≡◌ {A = ℕ} 68 82 = ap (λ (w : List ℕ). get_or w 0 0) (sym h ∙ g) in absurd (omega arith)
kind_once v dna aa h g = let e : ◌≡◌ {A = ℕ} 68 65 = ap (λ (w : List ℕ). get_or w 0 0) (sym h ∙ g) in absurd (omega arith)
kind_once v rna dna h g = let e : ◌≡◌ {A = ℕ} 82 68 = ap (λ (w : List ℕ). get_or w 0 0) (sym h ∙ g) in absurd (omega arith)
kind_once v rna rna h g = refl
kind_once v rna aa h g = let e : ◌≡◌ {A = ℕ} 82 65 = ap (λ (w : List ℕ). get_or w 0 0) (sym h ∙ g) in absurd (omega arith)
kind_once v aa dna h g = let e : ◌≡◌ {A = ℕ} 65 68 = ap (λ (w : List ℕ). get_or w 0 0) (sym h ∙ g) in absurd (omega arith)
kind_once v aa rna h g = let e : ◌≡◌ {A = ℕ} 65 82 = ap (λ (w : List ℕ). get_or w 0 0) (sym h ∙ g) in absurd (omega arith)
kind_once v aa aa h g = refl

-- so the code's kind is that of the paper
pub code_is : (v : List ℕ) (c : code.Molecule) → KindIs v c → (k : Kind) → Names v k → CodeOf c k
code_is v kind.Dna h k g = kind_once v k dna g h
code_is v kind.Rna h k g = kind_once v k rna g h
code_is v kind.Aa h k g = kind_once v k aa g h
code_is v kind.Other h k g = h k g
