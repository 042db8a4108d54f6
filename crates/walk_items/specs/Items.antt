-- What is promised of a walk along the items of a listing: qualifiers, features and sequences.
use Rattle.std.specs.Prelude.{ℕ, ◌+◌, ◌≤◌, ◌<◌, ◌≡◌, Bool, true, false, List, [], ◌∷◌, length, drop, get_or, Some, None}
use Rattle.std.specs.Prelude as rust
use Rattle.std.proofs.Math.Option.{Option, none, some}
use Rattle.paper.specs.Bytes.{bytes, is_blank}
use Rattle.paper.specs.Form.{Form, ◌·◌, each}
use Rattle.paper.specs.Tree.{Text, Qualifier, Feature, Table, Sequence, features_of, qualifiers_of}
use Rattle.paper.specs.Layout.{child, child?, qualifier, quals, feature, table, other_ids, sequence}
use Rattle.read_steps.specs.Follow.{Not, Starts, closing}
use Rattle.walk_steps.specs.Stands.{Stands, IsPart, MaybeIs, leaving, shutting, is_there}
use Rattle.walk_steps.specs.declared.Range.{Range}
use Rattle.walk_steps.specs.declared.Found.{Found}
use Rattle.walk_items.specs.declared.FoundQualifier.{FoundQualifier}
use Rattle.walk_items.specs.declared.FoundFeature.{FoundFeature}
use Rattle.walk_items.specs.declared.FoundTable.{FoundTable}
use Rattle.walk_items.specs.declared.FoundSequence.{FoundSequence}

-- ---- qualifiers and features

pub record IsQualifier (s : List ℕ) (q : Qualifier ℕ) (e : ℕ) (r : FoundQualifier) : Type 0 where
  pub name : IsPart s q.name r.name
  pub value : MaybeIs s q.value r.value
  pub next : r.next ≡ e

abbrev pub MeetsQualifier : List ℕ → ℕ → FoundQualifier → Type 0
MeetsQualifier s at r = (q : Qualifier ℕ) (e : ℕ) → Stands (child qualifier q) s at e → Not is_blank (drop e s) → IsQualifier s q e r

-- what follows the last qualifier of a feature
abbrev pub feature_tail : Bool → Form
feature_tail long = shutting (bytes "INSDFeature_quals") long · leaving (bytes "INSDFeature")

pub record IsFeature (s : List ℕ) (f : Feature ℕ) (e : ℕ) (r : FoundFeature) : Type 0 where
  pub key : IsPart s f.key r.key
  pub location : IsPart s f.location r.location
  pub stop : ℕ
  pub quals : Stands (each (child qualifier) (qualifiers_of f)) s r.quals stop
  pub closes : Starts closing (drop stop s)
  pub ends : Stands (feature_tail r.long) s stop e

abbrev pub MeetsFeature : List ℕ → ℕ → FoundFeature → Type 0
MeetsFeature s at r = (f : Feature ℕ) (e : ℕ) → Stands (child feature f) s at e → Not is_blank (drop e s) → IsFeature s f e r

-- whichever feature has this key and this location, and its qualifiers from `at` on
pub record FeatureRest (s : List ℕ) (key location : Range) (at : ℕ) (r : FoundFeature) : Type 0 where
  pub says : (f : Feature ℕ) (stop e : ℕ) → IsPart s f.key key → IsPart s f.location location → Stands (child? quals f.quals) s at stop
      → Starts closing (drop stop s) → Stands (leaving (bytes "INSDFeature")) s stop e → IsFeature s f e r

-- whichever feature has this key and this location, wherever it stands: behind a location that isn't empty stands its end tag
pub record FeatureFrom (s : List ℕ) (key location : Range) (r : FoundFeature) : Type 0 where
  pub says : (f : Feature ℕ) (at e : ℕ) → Stands (child feature f) s at e → Not is_blank (drop e s) → IsPart s f.key key
      → IsPart s f.location location → ¬ (f.location.read ≡ []) → IsFeature s f e r

-- whichever feature was found so ends there
pub record PassesFeature (s : List ℕ) (g : FoundFeature) (r : ℕ) : Type 0 where
  pub is : (f : Feature ℕ) (e : ℕ) → IsFeature s f e g → Not is_blank (drop e s) → r ≡ e

-- ---- the end of a feature table

-- what follows its features
abbrev pub table_closing : List (List ℕ)
table_closing = bytes "</INSDSeq_feature-table" ∷ []

-- `<`, and six bytes further `S`: so starts that end tag, and no tag inside the table
abbrev pub EndingAt : List ℕ → ℕ → Type 0
EndingAt s at = (get_or s at 0 ≡ 60) × (get_or s (at + 6) 0 ≡ 83)

-- the test of the two bytes, as a number
pub record Ending (a b r : ℕ) : Type 0 where
  pub none : r ≡ 0 → a ≡ 60 → b ≡ 83 → ⊥
  pub some : ¬ (r ≡ 0) → (a ≡ 60) × (b ≡ 83)

-- from a place to another it starts nowhere
abbrev pub NoEnding : List ℕ → ℕ → ℕ → Type 0
NoEnding s from to = (k : ℕ) → from ≤ k → k < to → EndingAt s k → ⊥

pub record Endings (s : List ℕ) (at r : ℕ) : Type 0 where
  pub none : r ≡ 0 → NoEnding s at (at + 64)

pub record FirstEnding (s : List ℕ) (at r : ℕ) : Type 0 where
  pub onward : at ≤ r
  pub each : NoEnding s at r
  pub there : r + 6 < length s → EndingAt s r

-- ---- sequences

-- what may follow other-seqids, and what a feature table
abbrev pub residues_next : List (List ℕ)
residues_next = bytes "<INSDSeq_sequence" ∷ []

abbrev pub table_next : List (List ℕ)
table_next = bytes "<INSDSeq_feature-table" ∷ residues_next

pub record IsIds (o : Option (Option (Text ℕ))) (e : ℕ) (r : Found Bool) : Type 0 where
  pub part : r.part ≡ is_there o
  pub next : r.next ≡ e

abbrev pub FindsIds : List ℕ → ℕ → Found Bool → Type 0
FindsIds s at r = (o : Option (Option (Text ℕ))) (e : ℕ) → Stands (child? other_ids o) s at e → Starts table_next (drop e s) → IsIds o e r

-- the features of the table t stand from `at` on, one at least
pub record TableAt (s : List ℕ) (t : Table ℕ) (place at : ℕ) : Type 0 where
  pub is : place ≡ t.place
  pub some : ¬ (t.features ≡ [])
  pub stop : ℕ
  pub features : Stands (each (child feature) t.features) s at stop
  pub closes : Starts closing (drop stop s)

abbrev pub TableIs : List ℕ → Option (Table ℕ) → rust.Option FoundTable → Type 0
TableIs s none None = Unit {0}
TableIs s none (Some r) = ⊥
TableIs s (some t) None = ⊥
TableIs s (some t) (Some r) = TableAt s t r.place r.first

pub record IsTable (s : List ℕ) (o : Option (Table ℕ)) (e : ℕ) (r : Found (rust.Option FoundTable)) : Type 0 where
  pub table : TableIs s o r.part
  pub next : r.next ≡ e

abbrev pub FindsTable : List ℕ → ℕ → Found (rust.Option FoundTable) → Type 0
FindsTable s at r = (o : Option (Table ℕ)) (e : ℕ) → Stands (child? table o) s at e → Starts residues_next (drop e s) → IsTable s o e r

pub record IsSequence (s : List ℕ) (q : Sequence ℕ) (e : ℕ) (r : FoundSequence) : Type 0 where
  pub number : IsPart s q.number r.number
  pub declared : IsPart s q.declared r.declared
  pub moltype : IsPart s q.moltype r.moltype
  pub division : IsPart s q.division r.division
  pub ids : r.ids ≡ is_there q.other_ids
  pub table : TableIs s q.table r.table
  pub residues : IsPart s q.residues r.residues
  pub next : r.next ≡ e

abbrev pub MeetsSequence : List ℕ → ℕ → FoundSequence → Type 0
MeetsSequence s at r = (q : Sequence ℕ) (e : ℕ) → Stands (child sequence q) s at e → Not is_blank (drop e s) → IsSequence s q e r

-- g is the first feature of q, and the others stand behind it
pub record FirstFeature (s : List ℕ) (q : Sequence ℕ) (g : FoundFeature) : Type 0 where
  pub first : Feature ℕ
  pub others : List (Feature ℕ)
  pub are : features_of q ≡ first ∷ others
  pub next : ℕ
  pub is : IsFeature s first next g
  pub follows : Not is_blank (drop next s)
  pub end : ℕ
  pub behind : Stands (each (child feature) others) s next end
  pub closes : Starts closing (drop end s)
