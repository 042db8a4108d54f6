-- What is promised of the translations of a judged coding region.
use Rattle.std.specs.Prelude as rust
use Rattle.std.specs.Prelude.{ℕ, ◌≡◌, Bool, false, List, [], ◌∷◌, ◌++◌, drop, None, Some}
use Rattle.std.proofs.Math.Option.{some}
use Rattle.paper.specs.Tree.{Text, Qualifier}
use Rattle.paper.specs.Form.{each}
use Rattle.paper.specs.Layout.{child, qualifier}
use Rattle.paper.specs.Locations.{Location}
use Rattle.paper.specs.Translation.{drop_stop, has_stop_inside}
use Rattle.protein_code.specs.Tables.{code_of}
use Rattle.paper.specs.Rules.{Named, value_read, value_place}
use Rattle.read_steps.specs.Follow.{Starts, closing}
use Rattle.walk_steps.specs.Stands.{Stands, IsPart, MaybeIs}
use Rattle.walk_steps.specs.declared.Range.{Range}
use Rattle.protein_codons.specs.Reading.{Codes}
use Rattle.protein_codons.specs.Letters.{letters_of}
use Rattle.protein_compare.specs.Comparing.{RightValue, RightIf}
use Rattle.judge_faults.specs.Sets.{Fault, Firsts, InSome}
use Rattle.judge_coding.specs.declared.SoFar.{SoFar}
use Rattle.judge_coding.specs.declared.Codons.{Codons}

-- rule 28 of the qualifier y, number k, where x are the letters of the codons
abbrev pub Breaks28 : List ℕ → ℕ → Qualifier ℕ → ℕ → ℕ → Type 0
Breaks28 x k y n p =
    (n ≡ 28) × (p ≡ value_place y.value y.name) × Named "translation" y × (¬ ((value_read y ≡ some (drop_stop x)) × (has_stop_inside x ≡ false)))

-- a value that is known to be right stands there, if any
abbrev pub RightAt : List ℕ → List ℕ → rust.Option Range → Type 0
RightAt s x None = Unit {0}
RightAt s x (Some p) = (u : Text ℕ) × IsPart s u p × RightValue x u.read

-- a location that the codons may have, and their letters there
abbrev pub CodesIn : Codons → Location → Type 0
CodesIn x t = Codes x.of.r.now x.of.loc.now x.of.top t

abbrev pub letters_in : Codons → Location → List ℕ
letters_in x t = letters_of (code_of x.of.code.now) x.of.r.now x.of.frame t

pub record SaysRight (x : Codons) (value : Range) (right : rust.Option Range) (y : Bool) : Type 0 where
  pub says : (t : Location) → CodesIn x t → RightAt x.s.now (letters_in x t) right → (u : Text ℕ) → IsPart x.s.now u value → RightIf (letters_in x t) u.read y

-- the first fault of the qualifiers l, and a value that is known to be right
pub record CheckedOf (s x : List ℕ) (known : SoFar) (l : List (Qualifier ℕ)) : Type 0 where
  pub first : Firsts (InSome (Breaks28 x) l) known.fault
  pub right : RightAt s x known.right

pub record Checks (x : Codons) (name : Range) (value : rust.Option Range) (known y : SoFar) : Type 0 where
  pub says : (t : Location) → CodesIn x t → (l : List (Qualifier ℕ)) → CheckedOf x.s.now (letters_in x t) known l
      → (q : Qualifier ℕ) → IsPart x.s.now q.name name → MaybeIs x.s.now q.value value → CheckedOf x.s.now (letters_in x t) y (l ++ (q ∷ []))

-- of whichever qualifiers stand from `first` on
pub record Rights (x : Codons) (first : ℕ) (y : Fault) : Type 0 where
  pub says : (t : Location) → CodesIn x t → (l : List (Qualifier ℕ)) (e : ℕ) → Stands (each (child qualifier) l) x.s.now first e
      → Starts closing (drop e x.s.now) → Firsts (InSome (Breaks28 (letters_in x t)) l) y
