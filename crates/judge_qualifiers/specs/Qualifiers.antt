-- What the qualifiers of a feature say: of its frame, whether they leave it unjudged, how many organisms and mol_types there are, from
-- where on its translations stand, and how its names stand in the row of its key.
use Rattle.location_judge.specs.declared.judging.Facts.{Facts}
use Rattle.walk_steps.specs.declared.Range.{Range}
use Rattle.std.specs.Prelude.{ℕ, ◌≡◌, Bool, true, ◌⊎◌, cond, ◌==◌, List, [], ◌∷◌, ◌++◌, drop}
use Rattle.std.specs.Prelude as rust
use Prim.Native.String.{String}
use Rattle.std.proofs.Math.Option.{Option, some}
use Rattle.paper.specs.Bytes.{bytes, raw}
use Rattle.paper.specs.Lists.{◌∈◌, Count}
use Rattle.paper.specs.Tree.{Text, Qualifier, Feature, opt, qualifiers_of}
use Rattle.paper.specs.Form.{each}
use Rattle.paper.specs.Layout.{child, qualifier}
use Rattle.paper.specs.Values.{Number}
use Rattle.paper.specs.Rules.{Named, organism_name, mol_type_name, value_read, Unjudged}
use Rattle.read_steps.specs.Follow.{Starts, closing}
use Rattle.value_words.specs.Reading.{Tells}
use Rattle.walk_steps.specs.Stands.{Stands, MaybeIs}
use Rattle.value_dictionary.specs.Texts.{PlaceOf}
use Rattle.value_vocabulary.specs.Tables.{name_texts, standing_at}
use Rattle.judge_faults.specs.Counters.{Capped}
use Rattle.judge_faults.specs.Sets.{Faults, Firsts, InSome}
use Rattle.location_judge.specs.Judging.{JudgedText}
use Rattle.judge_qualifiers.specs.declared.Frame.{Frame}
use Rattle.judge_qualifiers.specs.declared.Frame.TheVariants.{Unstated, Stated, Wrong}
use Rattle.judge_qualifiers.specs.declared.Noted.{Noted}
use Rattle.judge_qualifiers.specs.declared.Worded.{Worded}

-- whichever text, or none, is found there: r says whether it is x
pub record ValueIs (s : List ℕ) (value : rust.Option Range) (x : List ℕ) (r : Bool) : Type 0 where
  pub says : raw x ≡ x → (o : Option (Text ℕ)) → MaybeIs s o value → Tells r (opt (λ (t : Text ℕ). t.read) o ≡ some x)

-- whichever name has this number: r says whether it has the property
pub record OfName (number : ℕ) (A : List ℕ → Type 0) (r : Bool) : Type 0 where
  pub says : (v : List ℕ) → PlaceOf name_texts v number → Tells r (A v)

-- the qualifier that is found there, with the number of its name, and its value
pub record Shown (s : List ℕ) (number : ℕ) (value : rust.Option Range) (q : Qualifier ℕ) : Type 0 where
  pub name : PlaceOf name_texts q.name.read number
  pub valued : MaybeIs s q.value value

-- ---- rule 27

-- "isn't `1`, `2`, `3`"
abbrev pub Small : List ℕ → Type 0
Small w = (w ≡ bytes "1") ⊎ ((w ≡ bytes "2") ⊎ (w ≡ bytes "3"))

-- a value states the start n
pub record StatesStart (v : Option (List ℕ)) (n : ℕ) : Type 0 where
  pub word : List ℕ
  pub is : v ≡ some word
  pub small : Small word
  pub number : Number n word

-- what one codon_start of the value v states
abbrev pub StateIs : Option (List ℕ) → Frame → Type 0
StateIs v Unstated = ⊥
StateIs v (Stated n) = StatesStart v n
StateIs v Wrong = (n : ℕ) → ¬ StatesStart v n

pub record States (s : List ℕ) (value : rust.Option Range) (r : Frame) : Type 0 where
  pub says : (o : Option (Text ℕ)) → MaybeIs s o value → StateIs (opt (λ (t : Text ℕ). t.read) o) r

-- one qualifier only is a codon_start, and states the start n
pub record OneStart (l : List (Qualifier ℕ)) (n : ℕ) : Type 0 where
  pub one : Count (Named "codon_start") l 1
  pub which : Qualifier ℕ
  pub member : which ∈ l
  pub named : Named "codon_start" which
  pub states : StatesStart (value_read which) n

abbrev pub NoStart : List (Qualifier ℕ) → Type 0
NoStart l = Count (Named "codon_start") l 0

abbrev pub FrameIs : List (Qualifier ℕ) → Frame → Type 0
FrameIs l Unstated = NoStart l
FrameIs l (Stated n) = OneStart l n
FrameIs l Wrong = (¬ NoStart l) × ((n : ℕ) → ¬ OneStart l n)

pub record Frames (s : List ℕ) (frame : Frame) (number : ℕ) (value : rust.Option Range) (r : Frame) : Type 0 where
  pub says : (q : Qualifier ℕ) → Shown s number value q → (l : List (Qualifier ℕ)) → FrameIs l frame → FrameIs (l ++ (q ∷ [])) r

-- ---- unjudged

-- "transl_except, exception, pseudo, pseudogene"
abbrev pub exceptions : List String
exceptions = "transl_except" ∷ "exception" ∷ "pseudo" ∷ "pseudogene" ∷ []

abbrev pub Excepted : List ℕ → Type 0
Excepted v = (name : String) × name ∈ exceptions × (v ≡ bytes name)

-- ".. any transl_table whose value is absent or other than `1`"
abbrev pub OtherCode : Qualifier ℕ → Type 0
OtherCode q = Named "transl_table" q × (¬ (value_read q ≡ some (bytes "1")))

-- some qualifier leaves the region unjudged
abbrev pub HasExcepted : List (Qualifier ℕ) → Type 0
HasExcepted l = (q : Qualifier ℕ) × q ∈ l × (Excepted q.name.read ⊎ OtherCode q)

pub record Excepts (s : List ℕ) (excepted : Bool) (number : ℕ) (value : rust.Option Range) (r : Bool) : Type 0 where
  pub says : (q : Qualifier ℕ) → Shown s number value q → (l : List (Qualifier ℕ)) → Tells excepted (HasExcepted l) → Tells r (HasExcepted (l ++ (q ∷ [])))

-- for its qualifiers or its location
pub record LeavesOut (excepted : Bool) (verdict : rust.Option Facts) (r : Bool) : Type 0 where
  pub says : (n : ℕ) (f : Feature ℕ) → Tells excepted (HasExcepted (qualifiers_of f)) → JudgedText n f.location.read verdict → Tells r (Unjudged f)

-- ---- rule 22

abbrev pub IsOrganism : Bool → List ℕ → Type 0
IsOrganism upper v = v ≡ bytes (organism_name upper)

abbrev pub IsMolType : Bool → List ℕ → Type 0
IsMolType upper v = v ≡ bytes (mol_type_name upper)

-- how many of the qualifiers have the name, as n says
pub record Counted (name : String) (l : List (Qualifier ℕ)) (n : ℕ) : Type 0 where
  pub count : ℕ
  pub is : Count (Named name) l count
  pub capped : Capped count n

-- ---- rule 28

abbrev pub Untranslated : List (Qualifier ℕ) → Type 0
Untranslated l = (q : Qualifier ℕ) → q ∈ l → ¬ Named "translation" q

-- the number of the name translation
abbrev pub translation_number : ℕ
translation_number = 79

-- where the first translation stands that was met, after a qualifier more, which stands at a place
abbrev pub met_at : rust.Option ℕ → ℕ → ℕ → rust.Option ℕ
met_at (rust.Some p) number place = rust.Some p
met_at rust.None number place = cond (number == translation_number) (rust.Some place) rust.None

-- of the qualifiers l, which end at e, those before `rest` are no translations
pub record RestIs (s : List ℕ) (rest : ℕ) (l : List (Qualifier ℕ)) (e : ℕ) : Type 0 where
  pub front : List (Qualifier ℕ)
  pub back : List (Qualifier ℕ)
  pub is : l ≡ front ++ back
  pub none : Untranslated front
  pub stands : Stands (each (child qualifier) back) s rest e

-- ---- rules 41 and 42

-- how each name stands in the row at a place of the vocabulary's table
abbrev pub StandsBy : List ℕ → ℕ → (List ℕ → ℕ) → Type 0
StandsBy t row st = (v : List ℕ) (j : ℕ) → PlaceOf name_texts v j → standing_at t row j ≡ st v

-- a name that isn't allowed breaks rule 41
abbrev pub Foreign : (List ℕ → ℕ) → ℕ → Qualifier ℕ → Faults
Foreign st k q n p = (n ≡ 41) × (p ≡ q.name.place) × (st q.name.read ≡ 0)

-- some name stands so
abbrev pub HasStanding : (List ℕ → ℕ) → ℕ → List (Qualifier ℕ) → Type 0
HasStanding st how l = (q : Qualifier ℕ) × q ∈ l × (st q.name.read ≡ how)

-- what the names of the qualifiers l say, where they stand so
pub record WordedBy (st : List ℕ → ℕ) (words : Worded) (l : List (Qualifier ℕ)) : Type 0 where
  pub foreign : Firsts (InSome (Foreign st) l) words.foreign
  pub first : Tells words.first (HasStanding st 2 l)
  pub second : Tells words.second (HasStanding st 3 l)

-- after one qualifier more, whose name has this place and stands so
pub record WithWord (how place : ℕ) (words r : Worded) : Type 0 where
  pub says : (st : List ℕ → ℕ) (q : Qualifier ℕ) → st q.name.read ≡ how → place ≡ q.name.place
      → (l : List (Qualifier ℕ)) → WordedBy st words l → WordedBy st r (l ++ (q ∷ []))

-- ---- all of them

pub record NotedOf (upper : Bool) (row : ℕ) (t : List ℕ) (frame : Frame) (excepted : Bool) (organisms molTypes : ℕ) (words : Worded) (l : List (Qualifier ℕ)) : Type 0 where
  pub framed : FrameIs l frame
  pub left : Tells excepted (HasExcepted l)
  pub organisms_are : Counted (organism_name upper) l organisms
  pub mol_types_are : Counted (mol_type_name upper) l molTypes
  pub worded : (st : List ℕ → ℕ) → StandsBy t row st → WordedBy st words l

-- what is noted of the qualifiers l, which end at e
pub record IsNoted (s : List ℕ) (upper : Bool) (row : ℕ) (t : List ℕ) (l : List (Qualifier ℕ)) (e : ℕ) (r : Noted) : Type 0 where
  pub says : NotedOf upper row t r.frame r.excepted r.organisms r.moltypes r.words l
  pub rest : RestIs s r.rest l e
  pub next : r.next ≡ e

pub record Notes (s : List ℕ) (first : ℕ) (upper : Bool) (row : ℕ) (t : List ℕ) (r : Noted) : Type 0 where
  pub is : (l : List (Qualifier ℕ)) (e : ℕ) → Stands (each (child qualifier) l) s first e → Starts closing (drop e s) → IsNoted s upper row t l e r
