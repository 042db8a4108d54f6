-- What is shown of what the walk found: the stretch of a text, and the bytes of a stretch in the lent listing itself; and of an answer all
-- its parts so.
use Rattle.std.specs.Prelude.{ℕ, ◌+◌, ◌-◌, ◌≤◌, ◌<◌, ◌≡◌, Bool, false, Result, Ok, Err, Some, None, is_some, List}
use Rattle.std.specs.Prelude as rust
use Rattle.std.specs.Borrow.{Bor}
use Rattle.std.proofs.Math.Option.{Option}
use Rattle.paper.specs.Tree.{Text}
use Rattle.paper.specs.Answers.{Part, shown, no_part, nothing_shown, part_of, is_present, value_part}
use Rattle.paper.specs.Answers as paper
use Rattle.paper.specs.declared.Refused.{Refused}
use Rattle.location_judge.specs.Readings.{operator_code}
use Rattle.walk_steps.specs.Stands.{IsPart, MaybeIs}
use Rattle.walk_steps.specs.declared.Range.{Range}
use Rattle.ask_answers.specs.Stretches.{SequenceAnswer, FeatureAnswer, QualifierAnswer, no_stretch, part_is, Lies, value_is, ValueLies, kind_is}
use Rattle.ask_answers.specs.declared.Stretch.{Stretch}
use Rattle.ask_answers.specs.declared.FeatureShown.{FeatureShown}
use Rattle.value_words.specs.declared.Molecule.{Molecule}
use Rattle.ask_show.specs.declared.Sequence.{Sequence}
use Rattle.ask_show.specs.declared.Feature.{Feature}
use Rattle.ask_show.specs.declared.Qualifier.{Qualifier}

-- from one place to the other, or none; and whichever text is found there, this is its part
pub record StretchOf (p : Range) (r : Stretch) : Type 0 where
  pub so : p.from ≤ p.to → r ≡ record { start = p.from; size = p.to - p.from }
  pub none : p.to < p.from → r ≡ no_stretch
  pub says : (s : List ℕ) (x : Text ℕ) → IsPart s x p → (part_is r ≡ part_of x) × Lies s r

-- there if the value is, and then its part
pub record ValueOf (p : rust.Option Range) (r : rust.Option Stretch) : Type 0 where
  pub says : (s : List ℕ) (o : Option (Text ℕ)) → MaybeIs s o p → (is_some r ≡ is_present o) × (value_is r ≡ value_part o) × ValueLies s r

-- ---- where a part points: `at` is where the lent listing stands, a block and an offset

-- the bytes r, which stand at p, are the part x of the listing w itself
pub record Points (w : List ℕ) (at : ℕ × ℕ) (x : Part) (r : List ℕ) (p : ℕ × ℕ) : Type 0 where
  pub bytes : r ≡ shown w x
  pub there : p ≡ (at.0, x.start + at.1)

-- where the stretch lies within the listing; where it doesn't, no part is shown
pub record PointsAt (w : List ℕ) (at : ℕ × ℕ) (x : Stretch) (r : List ℕ) (p : ℕ × ℕ) : Type 0 where
  pub says : Lies w x → Points w at (part_is x) r p
  pub none : ¬ Lies w x → Points w at no_part r p

-- of a value that may be missing: then there is no part
abbrev pub ValuePoints : List ℕ → ℕ × ℕ → Part → rust.Option (Bor (List ℕ)) → Type 0
ValuePoints w at x None = x ≡ no_part
ValuePoints w at x (Some r) = Points w at x r.now r.ref_ptr

abbrev pub ValuePointsAt : List ℕ → ℕ × ℕ → rust.Option Stretch → rust.Option (Bor (List ℕ)) → Type 0
ValuePointsAt w at None None = Unit {0}
ValuePointsAt w at None (Some r) = ⊥
ValuePointsAt w at (Some x) None = ⊥
ValuePointsAt w at (Some x) (Some r) = PointsAt w at x r.now r.ref_ptr

-- ---- an answer, its parts in the listing w, which stands at `at`; a refusal stays as it is

abbrev pub SequenceIn : List ℕ → ℕ × ℕ → SequenceAnswer → Sequence → Type 0
SequenceIn w at (Ok x) y = (y.kind ≡ Ok x.kind) × PointsAt w at x.residues y.residues.now y.residues.ref_ptr
SequenceIn w at (Err r) y = (y.kind ≡ Err r) × PointsAt w at no_stretch y.residues.now y.residues.ref_ptr

pub record FeaturePointsAt (w : List ℕ) (at : ℕ × ℕ) (x : FeatureShown) (y : Feature) : Type 0 where
  pub named : PointsAt w at x.key y.key.now y.key.ref_ptr
  pub located : PointsAt w at x.location y.location.now y.location.ref_ptr
  pub operator : y.operator ≡ x.operator
  pub count : y.count ≡ x.count

abbrev pub FeatureIn : List ℕ → ℕ × ℕ → FeatureAnswer → Result Feature Refused → Type 0
FeatureIn w at (Ok x) (Ok y) = FeaturePointsAt w at x y
FeatureIn w at (Ok x) (Err q) = ⊥
FeatureIn w at (Err r) (Ok y) = ⊥
FeatureIn w at (Err r) (Err q) = q ≡ r

abbrev pub QualifierIn : List ℕ → ℕ × ℕ → QualifierAnswer → Result Qualifier Refused → Type 0
QualifierIn w at (Ok x) (Ok y) = PointsAt w at x.name y.name.now y.name.ref_ptr × ValuePointsAt w at x.value y.value
QualifierIn w at (Ok x) (Err q) = ⊥
QualifierIn w at (Err r) (Ok y) = ⊥
QualifierIn w at (Err r) (Err q) = q ≡ r

-- ---- what a call shows: `Says` is what the paper says of it, in numbers and parts; each part is the listing's own, and a refusal shows
-- none and has a number

abbrev pub SequencePoints : (Says : (number place kind : ℕ) (residues : Part) → Type 0) → List ℕ → ℕ × ℕ → Result Molecule Refused → Bor (List ℕ) → Type 0
SequencePoints Says w at (Ok d) b = (x : Part) × Says 0 0 (kind_is d) x × Points w at x b.now b.ref_ptr
SequencePoints Says w at (Err r) b = (¬ (r.rule ≡ 0)) × Says r.rule r.place 0 no_part × Points w at no_part b.now b.ref_ptr

-- "an empty part on refusal"
abbrev pub ShowsSequenceBy : (Says : (number place kind : ℕ) (residues : Part) → Type 0) → List ℕ → ℕ × ℕ → Sequence → Type 0
ShowsSequenceBy Says w at y = SequencePoints Says w at y.kind y.residues

pub record FeaturePoints (Says : paper.FeatureShown → Type 0) (w : List ℕ) (at : ℕ × ℕ) (y : Feature) : Type 0 where
  pub key : Part
  pub location : Part
  pub says : Says (record { key = key; location = location; operator = operator_code y.operator; count = y.count })
  pub named : Points w at key y.key.now y.key.ref_ptr
  pub located : Points w at location y.location.now y.location.ref_ptr

-- with the lent numbers as they are afterwards
abbrev pub ShowsFeatureBy : (Says : (number place : ℕ) → paper.FeatureShown → List ℕ → Type 0) → List ℕ → ℕ × ℕ → Result Feature Refused → List ℕ → Type 0
ShowsFeatureBy Says w at (Ok y) after = FeaturePoints (λ x. Says 0 0 x after) w at y
ShowsFeatureBy Says w at (Err r) after = (¬ (r.rule ≡ 0)) × Says r.rule r.place nothing_shown after

pub record QualifierPoints (Says : (name : Part) (present : Bool) (value : Part) → Type 0) (w : List ℕ) (at : ℕ × ℕ) (y : Qualifier) : Type 0 where
  pub name : Part
  pub value : Part
  pub says : Says name (is_some y.value) value
  pub named : Points w at name y.name.now y.name.ref_ptr
  pub valued : ValuePoints w at value y.value

abbrev pub ShowsQualifierBy : (Says : (number place : ℕ) (name : Part) (present : Bool) (value : Part) → Type 0) → List ℕ → ℕ × ℕ → Result Qualifier Refused
    → Type 0
ShowsQualifierBy Says w at (Ok y) = QualifierPoints (Says 0 0) w at y
ShowsQualifierBy Says w at (Err r) = (¬ (r.rule ≡ 0)) × Says r.rule r.place no_part false no_part
