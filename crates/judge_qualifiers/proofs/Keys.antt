-- The key of a coding region.
use Prim.Native.Nat.{ℕ}
use mathlib.Core.Path.{◌≡◌, refl, sym, ap, ◌∙◌}
use mathlib.Core.Bool.{Bool, true, false, true≢false}
use mathlib.Core.List.{List}
use Rattle.paper.specs.Bytes.{bytes}
use Rattle.paper.specs.Tree.{Sequence, Feature}
use Rattle.paper.specs.Rules.{Kind, aa, Keyed, Coding, is_nucleotide}
use Rattle.value_words.specs.Reading.{Tells, KindIs, Names}
use Rattle.value_words.specs.declared.Molecule as code
use Rattle.value_words.specs.declared.Molecule.TheVariants as kind
use Rattle.value_words.proofs.Read.{tells_word}
use Rattle.judge_faults.proofs.Moltypes.{kind_once}
use Rattle.judge_qualifiers.specs.Starts.{NamesCoding}

pub coding_named : (k : Kind) {c : code.Molecule} {w : List ℕ} (r : Bool) → is_nucleotide k ≡ true → ((v : List ℕ) → KindIs v c → Names v k)
    → Tells r (w ≡ bytes "CDS") → NamesCoding w c r
coding_named k r nuc named t =
    record { says = λ q f i e. by q f (named q.moltype.read i) r ((tells_word (bytes "CDS") refl r t).says f.key.read e) }
  where
    by : (q : Sequence ℕ) (f : Feature ℕ) → Names q.moltype.read k → (d : Bool) → Tells d (Keyed "CDS" f) → Tells d (Coding q f)
    by q f i true h = record { kind = k; is = i; nucleotide = nuc; keyed = h }
    by q f i false h = λ x. h x.keyed

pub coding_aa : {w : List ℕ} → NamesCoding w kind.Aa false
coding_aa = record { says = λ q f i e x. true≢false (sym x.nucleotide ∙ ap is_nucleotide (kind_once q.moltype.read x.kind aa x.is i)) }

pub coding_other : {w : List ℕ} → NamesCoding w kind.Other false
coding_other = record { says = λ q f i e x. i x.kind x.is }
