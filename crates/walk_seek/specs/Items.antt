-- An item of a list by its number: where it stands.
use Rattle.std.specs.Prelude.{ℕ, Option, Some, None, List, drop}
use Rattle.paper.specs.Bytes.{bytes, is_blank}
use Rattle.paper.specs.Lists.{Numbered}
use Rattle.paper.specs.Form.{Form, each}
use Rattle.paper.specs.Tree as tree
use Rattle.paper.specs.Layout as layout
use Rattle.read_steps.specs.Follow.{Not, Starts, closing}
use Rattle.walk_steps.specs.Stands.{Stands}
use Rattle.walk_seek.specs.declared.Item.{Item}
use Rattle.walk_seek.specs.declared.Item.TheVariants.{Sequence, Feature, Qualifier}

-- what is asked for, the name of its element, and how it is written
abbrev pub Asked : Item → Type 0
Asked Sequence = tree.Sequence ℕ
Asked Feature = tree.Feature ℕ
Asked Qualifier = tree.Qualifier ℕ

abbrev pub name_of : Item → List ℕ
name_of Sequence = bytes "SequenceData"
name_of Feature = bytes "INSDFeature"
name_of Qualifier = bytes "INSDQualifier"

abbrev pub form_of : (i : Item) → Asked i → Form
form_of Sequence = layout.child layout.sequence
form_of Feature = layout.child layout.feature
form_of Qualifier = layout.child layout.qualifier

-- x is number k of the list, and stands at the place
pub record Here {A : Type 0} (F : A → Form) (s : List ℕ) (l : List A) (k at : ℕ) : Type 0 where
  pub item : A
  pub numbered : Numbered l k item
  pub end : ℕ
  pub stands : Stands (F item) s at end
  pub follows : Not is_blank (drop end s)

abbrev pub PlaceIs : {A : Type 0} → (A → Form) → List ℕ → List A → ℕ → Option ℕ → Type 0
PlaceIs {A} F s l k None = (x : A) → ¬ Numbered l k x
PlaceIs F s l k (Some at) = Here F s l k at

-- of whichever list stands from `first` on
pub record SeeksIn {A : Type 0} (F : A → Form) (s : List ℕ) (first k : ℕ) (r : Option ℕ) : Type 0 where
  pub says : (l : List A) (e : ℕ) → Stands (each F l) s first e → Starts closing (drop e s) → PlaceIs F s l k r

abbrev pub Seeks : Item → List ℕ → ℕ → ℕ → Option ℕ → Type 0
Seeks i = SeeksIn (form_of i)
