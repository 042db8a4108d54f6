-- What is promised of the judgement of features.
use Rattle.location_judge.specs.declared.judging.Facts.{Facts}
use Rattle.std.specs.Prelude.{ℕ, ◌≤◌, ◌≡◌, Bool, true, false, cond, List, length, drop, Option, None, Some}
use Rattle.paper.specs.Bytes.{raw, is_blank}
use Rattle.paper.specs.Lists.{◌∈◌, Count}
use Rattle.paper.specs.Form.{each}
use Rattle.paper.specs.Layout.{child, feature}
use Rattle.paper.specs.Tree.{Sequence, Feature, features_of}
use Rattle.paper.specs.Rules.{Kind, IsKind, Keyed, upper_in, source_name, Coding, Unjudged, InSource, InFeature, InTable}
use Rattle.read_steps.specs.Follow.{Not, Starts, closing}
use Rattle.walk_steps.specs.Stands.{Stands}
use Rattle.walk_items.specs.Items.{TableIs}
use Rattle.walk_items.specs.declared.FoundTable.{FoundTable}
use Rattle.value_words.specs.Reading.{Tells, KindIs}
use Rattle.value_words.specs.declared.Molecule as code
use Rattle.value_words.specs.declared.Molecule.TheVariants as kind
use Rattle.judge_faults.specs.Sets.{Fault, fault_at, Earlier, Firsts, InSome}
use Rattle.judge_faults.specs.Known.{Knows}
use Rattle.judge_faults.specs.declared.Known.{Known}
use Rattle.judge_faults.specs.Counters.{up_to, Capped}
use Rattle.judge_features.specs.declared.Role.{Role}
use Rattle.judge_features.specs.declared.Role.TheVariants as role
use Rattle.judge_features.specs.declared.Featured.{Featured}
use Rattle.judge_features.specs.declared.FeatureCounts.{FeatureCounts}
use Rattle.judge_features.specs.declared.Tally.{Tally}
use Rattle.judge_features.specs.declared.Tabled.{Tabled}

-- ---- one feature

-- rules 24 to 26, which all have the location's place
abbrev pub if_aa : code.Molecule → Fault → Fault
if_aa kind.Aa r = r
if_aa kind.Dna r = None
if_aa kind.Rna r = None
if_aa kind.Other r = None

abbrev pub place_fault : Option Facts → code.Molecule → ℕ → Fault
place_fault None c place = fault_at 24 place
place_fault (Some f) c place = cond f.wrong (fault_at 25 place) (cond f.complemented (if_aa c (fault_at 26 place)) None)

-- f is a source of the sequence q, if it is the only one
abbrev pub IsSource : Sequence ℕ → Feature ℕ → Type 0
IsSource q f = (k : Kind) × IsKind k q × Keyed (source_name (upper_in k)) f

-- of whichever sequence of that kind, and feature whose key is written so
pub record NamesSource (key : List ℕ) (kind : code.Molecule) (r : Bool) : Type 0 where
  pub says : (q : Sequence ℕ) (f : Feature ℕ) → KindIs q.moltype.read kind → key ≡ raw f.key.read → Tells r (IsSource q f)

abbrev pub RoleIs : Sequence ℕ → Feature ℕ → Role → Type 0
RoleIs q f role.Source = IsSource q f × (¬ Coding q f)
RoleIs q f role.Judged = (¬ IsSource q f) × Coding q f × (¬ Unjudged f)
RoleIs q f role.Unjudged = (¬ IsSource q f) × Coding q f × Unjudged f
RoleIs q f role.Plain = (¬ IsSource q f) × (¬ Coding q f)

abbrev pub role_of : Bool → Role
role_of true = role.Unjudged
role_of false = role.Judged

pub record IsFeatured (q : Sequence ℕ) (f : Feature ℕ) (e : ℕ) (r : Featured) : Type 0 where
  pub fault : Firsts (InFeature q f) r.fault
  pub role : RoleIs q f r.role
  pub source : (k : Kind) → IsKind k q → Keyed (source_name (upper_in k)) f → Firsts (InSource (upper_in k) q f) r.source
  pub next : r.next ≡ e

pub record JudgesFeature (s : List ℕ) (at : ℕ) (known : Known) (r : Featured) : Type 0 where
  pub says : (q : Sequence ℕ) (f : Feature ℕ) (e : ℕ) → Knows s q known → Stands (child feature f) s at e → Not is_blank (drop e s) → IsFeatured q f e r

-- ---- features added up

abbrev pub nothing_yet : Tally
nothing_yet = record { fault = None; source = None; sources = 0; counts = record { features = 0; judged = 0; unjudged = 0 } }

-- by what a feature is
abbrev pub if_source : {A : Type 0} → Role → A → A → A
if_source role.Source x y = x
if_source role.Judged x y = y
if_source role.Unjudged x y = y
if_source role.Plain x y = y

abbrev pub if_judged : {A : Type 0} → Role → A → A → A
if_judged role.Source x y = y
if_judged role.Judged x y = x
if_judged role.Unjudged x y = y
if_judged role.Plain x y = y

abbrev pub if_unjudged : {A : Type 0} → Role → A → A → A
if_unjudged role.Source x y = y
if_unjudged role.Judged x y = y
if_unjudged role.Unjudged x y = x
if_unjudged role.Plain x y = y

pub record Adds (limit : ℕ) (a : Tally) (x : Featured) (r : Tally) : Type 0 where
  pub fault : Earlier a.fault x.fault r.fault
  pub source : r.source ≡ if_source x.role x.source a.source
  pub sources : r.sources ≡ if_source x.role (up_to 2 a.sources) a.sources
  pub features : r.counts.features ≡ up_to limit a.counts.features
  pub judged : r.counts.judged ≡ if_judged x.role (up_to limit a.counts.judged) a.counts.judged
  pub unjudged : r.counts.unjudged ≡ if_unjudged x.role (up_to limit a.counts.unjudged) a.counts.unjudged

abbrev pub JudgedIn : Sequence ℕ → Feature ℕ → Type 0
JudgedIn q f = Coding q f × (¬ Unjudged f)

abbrev pub UnjudgedIn : Sequence ℕ → Feature ℕ → Type 0
UnjudgedIn q f = Coding q f × Unjudged f

-- how many of the features l of the sequence q there are
pub record CountedIn (q : Sequence ℕ) (l : List (Feature ℕ)) (r : FeatureCounts) : Type 0 where
  pub features : r.features ≡ length l
  pub judged : Count (JudgedIn q) l r.judged
  pub unjudged : Count (UnjudgedIn q) l r.unjudged

-- what is known of the features l of the sequence q
pub record Tallied (q : Sequence ℕ) (l : List (Feature ℕ)) (r : Tally) : Type 0 where
  pub fault : Firsts (InSome (λ (i : ℕ) (f : Feature ℕ). InFeature q f) l) r.fault
  pub count : ℕ
  pub sources : Count (IsSource q) l count
  pub capped : Capped count r.sources
  pub source : count ≡ 1 → (k : Kind) → IsKind k q → (f : Feature ℕ) → f ∈ l → Keyed (source_name (upper_in k)) f → Firsts (InSource (upper_in k) q f) r.source
  pub counts : CountedIn q l r.counts

-- ---- the table

pub record WithSource (a : Tally) (place : ℕ) (r : Fault) : Type 0 where
  pub one : a.sources ≡ 1 → Earlier a.fault a.source r
  pub other : ¬ (a.sources ≡ 1) → Earlier a.fault (fault_at 21 place) r

abbrev pub Finishes : Tally → code.Molecule → ℕ → Fault → Type 0
Finishes a kind.Dna place r = WithSource a place r
Finishes a kind.Rna place r = WithSource a place r
Finishes a kind.Aa place r = WithSource a place r
Finishes a kind.Other place r = r ≡ a.fault

-- no count is above this, whatever the bytes are
pub record Below (a : FeatureCounts) (n : ℕ) : Type 0 where
  pub features : a.features ≤ n
  pub judged : a.judged ≤ n
  pub unjudged : a.unjudged ≤ n

-- what is known of all the features of q; no count is above the length, whatever the bytes are
pub record JudgesFeatures (s : List ℕ) (first : ℕ) (known : Known) (r : Tally) : Type 0 where
  pub says : (q : Sequence ℕ) → Knows s q known → (l : List (Feature ℕ)) (e : ℕ) → Stands (each (child feature) l) s first e → Starts closing (drop e s) → Tallied q l r
  pub below : Below r.counts (length s)

pub record IsTabled (q : Sequence ℕ) (r : Tabled) : Type 0 where
  pub fault : Firsts (InTable q) r.fault
  pub counts : CountedIn q (features_of q) r.counts

pub record Tables (a : Tally) (c : code.Molecule) (place : ℕ) (r : Tabled) : Type 0 where
  pub fault : Finishes a c place r.fault
  pub counts : r.counts ≡ a.counts

pub record JudgesTable (s : List ℕ) (t : Option FoundTable) (known : Known) (r : Tabled) : Type 0 where
  pub says : (q : Sequence ℕ) → Knows s q known → TableIs s q.table t → IsTabled q r
  pub below : Below r.counts (length s)
