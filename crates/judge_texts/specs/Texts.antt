-- What is promised of the judgement of a sequence's texts.
use Rattle.std.specs.Prelude.{◌≡◌, ℕ, ◌+◌, ◌≤◌, Bool, List, [], length, drop}
use Rattle.paper.specs.Bytes.{raw, leading}
use Rattle.paper.specs.Tree.{Text, Sequence}
use Rattle.paper.specs.Values.{Number}
use Rattle.paper.specs.Rules.{Skipped, IsKind, is_symbol, undefined, fewest, InResidues, InTexts, Empty}
use Rattle.paper.specs.Rules as Rules
use Rattle.paper.specs.Answers.{limit}
use Rattle.value_words.specs.Reading.{Tells}
use Rattle.value_words.specs.declared.Molecule.{Molecule}
use Rattle.walk_steps.specs.Stands.{IsPart, is_there}
use Rattle.walk_steps.specs.declared.Range.{Range}
use Rattle.judge_faults.specs.Sets.{Fault, Firsts, Bad}
use Rattle.judge_faults.specs.Known.{Knows, CodeOf}
use Rattle.judge_faults.specs.declared.Known.{Known}

-- ---- what is known of a sequence

pub record Sized (n r : ℕ) : Type 0 where
  pub is : n ≤ limit → r ≡ n

-- what stands behind the first n bytes is written from the rest of the characters
pub record LengthOf (w : List ℕ) (n r : ℕ) : Type 0 where
  pub says : (x : List ℕ) → drop n w ≡ raw x → r ≡ n + length x

-- r bytes are written before the first residue that is no symbol of the kind; they are as many characters, and the others stand behind them
pub record Scans (w : List ℕ) (kind : Molecule) (r : ℕ) : Type 0 where
  pub within : r ≤ length w
  pub says : (v : List ℕ) → w ≡ raw v → (k : Rules.Kind) → CodeOf kind k → r ≡ length (raw (leading (is_symbol k) v))
  pub rest : (v : List ℕ) → w ≡ raw v → (x : List ℕ) × (drop r w ≡ raw x) × (length v ≡ r + length x)

pub record KnowsOf (s : List ℕ) (moltype residues : Range) (r : Known) : Type 0 where
  pub says : (q : Sequence ℕ) → length s ≤ limit → IsPart s q.moltype moltype → IsPart s q.residues residues → Knows s q r

-- ---- rules 15 and 29

pub record JudgesNumber (s : List ℕ) (number : Range) (k : ℕ) (r : Fault) : Type 0 where
  pub says : (t : Text ℕ) → IsPart s t number → Firsts (Bad 15 t.place (Number k t.read)) r

pub record TellsSkipped (s : List ℕ) (residues : Range) (r : Bool) : Type 0 where
  pub says : (q : Sequence ℕ) → IsPart s q.residues residues → Tells r (Skipped q)

pub record TellsBlank (p : Range) (r : Bool) : Type 0 where
  pub says : (s : List ℕ) (t : Text ℕ) → IsPart s t p → Tells r (t.read ≡ [])

pub record TellsEmpty (declared moltype division : Range) (ids table : Bool) (r : Bool) : Type 0 where
  pub says : (s : List ℕ) (q : Sequence ℕ) → IsPart s q.declared declared → IsPart s q.moltype moltype → IsPart s q.division division
      → ids ≡ is_there q.other_ids → table ≡ is_there q.table → Tells r (Empty q)

-- ---- rules 16 to 20

-- rules 18 and 19, by what the kind asks
pub record JudgesSymbols (w : List ℕ) (known : Known) (none few : ℕ) (r : Fault) : Type 0 where
  pub says : (s : List ℕ) (q : Sequence ℕ) → Knows s q known → w ≡ raw q.residues.read
      → (k : Rules.Kind) → IsKind k q → none ≡ undefined k → few ≡ fewest k → Firsts (InResidues q) r

pub record JudgesResidues (s : List ℕ) (known : Known) (r : Fault) : Type 0 where
  pub says : (q : Sequence ℕ) → Knows s q known → Firsts (InResidues q) r

pub record JudgesTexts (s : List ℕ) (declared moltype division : Range) (known : Known) (r : Fault) : Type 0 where
  pub says : (q : Sequence ℕ) → IsPart s q.declared declared → IsPart s q.moltype moltype → IsPart s q.division division → Knows s q known
      → Firsts (InTexts q) r
