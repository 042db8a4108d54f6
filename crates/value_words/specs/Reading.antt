-- What is promised of a raw part: it holds of whichever text as read the part is written from.
use Rattle.std.specs.Prelude.{ℕ, ◌≡◌, Bool, true, false, List}
use Rattle.paper.specs.Bytes.{bytes, raw}
use Rattle.paper.specs.Rules.{dna, rna, aa, kind_name}
use Rattle.paper.specs.Rules as Rules
use Rattle.value_words.specs.declared.Molecule.{Molecule}
use Rattle.value_words.specs.declared.Molecule.TheVariants as kind

-- r says whether A holds
abbrev pub Tells : Bool → Type 0 → Type 0
Tells true A = A
Tells false A = ¬ A

-- r says whether the text has the property
pub record OfRead (w : List ℕ) (A : List ℕ → Type 0) (r : Bool) : Type 0 where
  pub says : (v : List ℕ) → w ≡ raw v → Tells r (A v)

-- ---- kinds

-- a text names this kind
abbrev pub Names : List ℕ → Rules.Kind → Type 0
Names v k = v ≡ bytes (kind_name k)

abbrev pub KindIs : List ℕ → Molecule → Type 0
KindIs v kind.Dna = Names v dna
KindIs v kind.Rna = Names v rna
KindIs v kind.Aa = Names v aa
KindIs v kind.Other = (k : Rules.Kind) → ¬ Names v k

pub record Moltypes (w : List ℕ) (r : Molecule) : Type 0 where
  pub says : (v : List ℕ) → w ≡ raw v → KindIs v r

-- it is one of the three
abbrev pub is_known : Molecule → Bool
is_known kind.Dna = true
is_known kind.Rna = true
is_known kind.Aa = true
is_known kind.Other = false

-- its words are those of AA: its own keys, and the names of its source in upper case
abbrev pub is_acid : Molecule → Bool
is_acid kind.Dna = false
is_acid kind.Rna = false
is_acid kind.Aa = true
is_acid kind.Other = false
