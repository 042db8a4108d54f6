-- What is promised of an item that is found by the numbers of an index: which of the paper's tree it is.
use Rattle.std.specs.Prelude.{ℕ, ◌+◌, ◌<◌, ◌≡◌, Option, Some, None, Result, Ok, Err, List, ◌++◌, length, drop}
use Rattle.paper.specs.Bytes.{raw}
use Rattle.paper.specs.Lists.{◌∈◌, Numbered, gather}
use Rattle.paper.specs.Tree.{Text, Feature, Sequence, Listing, features_of}
use Rattle.paper.specs.Rules.{Skipped}
use Rattle.paper.specs.declared.Refused.{Refused}
use Rattle.paper.specs.Index.{in_bytes, place_and_length, kind_in, feature_entry, body_of, contents_of, index_of}
use Rattle.value_words.specs.declared.Molecule.{Molecule}
use Rattle.value_words.specs.declared.Molecule.TheVariants.{Dna, Rna, Aa, Other}
use Rattle.walk_steps.specs.declared.Range.{Range}
use Rattle.index_find.specs.declared.Body.{Body}
use Rattle.index_find.specs.declared.Entry.{Entry}

-- ---- numbers

-- each has 32 bits
abbrev pub Fits : List ℕ → Type 0
Fits l = (n : ℕ) → n ∈ l → n < 4294967296

-- these stand in the bytes x from a place on
pub record NumbersAt (x : List ℕ) (at : ℕ) (l : List ℕ) : Type 0 where
  pub behind : List ℕ
  pub here : drop at x ≡ in_bytes l ++ behind
  pub fits : Fits l

-- the part is where the text stands in the listing
pub record RangeOf (t : Text ℕ) (r : Range) : Type 0 where
  pub first : r.from ≡ t.place
  pub behind : r.to ≡ t.place + length (raw t.read)

-- whichever text's place and length stand here
pub record PartFound (x : List ℕ) (at : ℕ) (r : Range) : Type 0 where
  pub says : (t : Text ℕ) → NumbersAt x at (place_and_length t) → RangeOf t r

-- ---- the body of a sequence

abbrev pub molecule_number : Molecule → ℕ
molecule_number Dna = 1
molecule_number Rna = 2
molecule_number Aa = 3
molecule_number Other = 0

pub record BodyIs (x : List ℕ) (s : Sequence ℕ) (b : Body) : Type 0 where
  pub kind : molecule_number b.kind ≡ kind_in s
  pub residues : RangeOf s.residues b.residues
  pub count : b.count ≡ length (features_of s)
  pub behind : List ℕ
  pub entries : drop b.first x ≡ in_bytes (gather feature_entry (features_of s)) ++ behind
  pub fits : Fits (gather feature_entry (features_of s))

-- why a listing shows no body number k: "30 no such sequence; 31 skipped"
pub data NoBody (l : Listing ℕ) (k : ℕ) : (number place : ℕ) → Type 0 where
  no_sequence : ((s : Sequence ℕ) → ¬ Numbered l.sequences k s) → NoBody l k 30 0
  skipped : (s : Sequence ℕ) → Numbered l.sequences k s → Skipped s → NoBody l k 31 0

abbrev pub BodyIn : Listing ℕ → List ℕ → ℕ → Result Body Refused → Type 0
BodyIn l x k (Err r) = NoBody l k r.rule r.place
BodyIn l x k (Ok b) = (s : Sequence ℕ) × Numbered l.sequences k s × (¬ Skipped s) × BodyIs x s b

-- of whichever listing x is the index
pub record BodyFound (x : List ℕ) (k : ℕ) (y : Result Body Refused) : Type 0 where
  pub says : (l : Listing ℕ) → x ≡ index_of l → Fits (contents_of l ++ gather body_of l.sequences) → BodyIn l x k y

-- ---- the entry of a feature

abbrev pub EntryIn : Sequence ℕ → ℕ → Option Entry → Type 0
EntryIn s j None = (f : Feature ℕ) → ¬ Numbered (features_of s) j f
EntryIn s j (Some e) = (f : Feature ℕ) × Numbered (features_of s) j f × RangeOf f.key e.key × RangeOf f.location e.location

-- of whichever sequence this is the body
pub record EntryFound (x : List ℕ) (b : Body) (j : ℕ) (y : Option Entry) : Type 0 where
  pub says : (s : Sequence ℕ) → BodyIs x s b → EntryIn s j y
