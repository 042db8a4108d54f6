-- How a feature of an accepted listing is translated.
use Rattle.std.specs.Prelude.{ℕ, ◌≡◌, false, Option, None, Some, List, drop}
use Rattle.paper.specs.Lists.{◌∈◌}
use Rattle.paper.specs.Form.{each}
use Rattle.paper.specs.Layout.{child, qualifier}
use Rattle.paper.specs.Tree.{Sequence, Feature, Qualifier}
use Rattle.paper.specs.Translation.{code1}
use Rattle.paper.specs.Locations.{Location, Locates, breaks25}
use Rattle.paper.specs.Rules.{L, Named, Coding, Unjudged, Judged, InTexts, InFeature}
use Rattle.read_steps.specs.Parts.{ShowsBytes}
use Rattle.read_steps.specs.Follow.{Starts, closing}
use Rattle.walk_steps.specs.Stands.{Stands, MaybeIs}
use Rattle.walk_steps.specs.declared.Range.{Range}
use Rattle.walk_items.specs.Items.{IsFeature}
use Rattle.walk_items.specs.declared.FoundFeature.{FoundFeature}
use Rattle.protein_codons.specs.Letters.{letters_of}
use Rattle.protein_compare.specs.Comparing.{RightValue}
use Rattle.judge_faults.specs.Known.{Knows}
use Rattle.judge_faults.specs.declared.Known.{Known}
use Rattle.ask_translation.specs.declared.Plan.{Plan}
use Rattle.ask_translation.specs.declared.Plan.TheVariants.{NoCds, Given, From}
use Rattle.ask_translation.specs.declared.Plan.TheVariants as plan
use Rattle.ask_translation.specs.declared.Planned.{Planned}

-- no rule on the texts of the sequence q, and none on its feature f, is broken
pub record Keeps (q : Sequence ℕ) (f : Feature ℕ) : Type 0 where
  pub texts : (n p : ℕ) → ¬ InTexts q n p
  pub feature : (n p : ℕ) → ¬ InFeature q f n p

-- ---- the value that the listing gives

-- it is that of a translation among these qualifiers; where none is given nothing is said
abbrev pub GivenIs : List ℕ → List (Qualifier ℕ) → Option Range → Type 0
GivenIs s l None = Unit {0}
GivenIs s l (Some p) = (q : Qualifier ℕ) × q ∈ l × Named "translation" q × MaybeIs s q.value (Some p)

-- of whichever qualifiers stand from a place on
pub record GivenAt (s : List ℕ) (at : ℕ) (r : Option Range) : Type 0 where
  pub says : (l : List (Qualifier ℕ)) (e : ℕ) → Stands (each (child qualifier) l) s at e → Starts closing (drop e s) → GivenIs s l r

-- ---- the plan

-- f is a judged CDS of q, and its codons start with residue `start` of its spans
pub record PlannedFrom (q : Sequence ℕ) (f : Feature ℕ) (start : ℕ) : Type 0 where
  pub location : Location
  pub located : Locates location f.location.read
  pub inside : breaks25 (L q) location ≡ false
  pub judged : Judged q f (letters_of code1 q.residues.read start location)

-- f is a judged CDS of q, and the part p of the listing is its translation: "a stop .. inside" and a value "different from the
-- translation" break rule 28
pub record PlannedGiven (s : List ℕ) (q : Sequence ℕ) (f : Feature ℕ) (p : Range) : Type 0 where
  pub letters : List ℕ
  pub judged : Judged q f letters
  pub right : (w : List ℕ) → ShowsBytes s p.from p.to w → RightValue letters w

abbrev pub PlanIs : List ℕ → Sequence ℕ → Feature ℕ → Plan → Type 0
PlanIs s q f NoCds = ¬ Coding q f
PlanIs s q f plan.Unjudged = Coding q f × Unjudged f
PlanIs s q f (Given p) = PlannedGiven s q f p
PlanIs s q f (From n) = PlannedFrom q f n

-- of whichever sequence is known so, and feature of it that was found so; and where its qualifiers end
pub record Plans (s : List ℕ) (known : Known) (g : FoundFeature) (r : Planned) : Type 0 where
  pub says : (q : Sequence ℕ) (f : Feature ℕ) (e : ℕ) → Knows s q known → IsFeature s f e g → Keeps q f → PlanIs s q f r.plan
  pub ends : (f : Feature ℕ) (e : ℕ) (i : IsFeature s f e g) → r.next ≡ i.stop
