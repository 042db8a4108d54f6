-- The index of request 5 of document 02: which bytes it is, and what its maker, its checker and the lookups with it answer. It is a
-- function of the listing's tree: "a table of contents first (the count of sequences, then for each its body's start and size), then the
-- bodies in order without gaps".
use Rattle.std.specs.Prelude.{ℕ, suc, ◌+◌, ◌*◌, ◌/◌, ◌%◌, ◌≡◌, Bool, cond, List, [], ◌∷◌, ◌++◌, map, length, eqb}
use Rattle.paper.specs.Bytes.{bytes, same, raw}
use Rattle.paper.specs.Lists.{gather}
use Rattle.paper.specs.Tree.{Text, Feature, Sequence, Listing, features_of}
use Rattle.paper.specs.Rules.{Kind, dna, rna, aa, kind_name}
use Rattle.paper.specs.Answers.{Outcome, refuse, give, Checked, Lent, kind_number, Part, FeatureShown, SequenceSays, FeatureSays, QualifierSays, TranslationSays, TranslationsSays, NoSequence, NoFeature, NoQualifier, NothingWritten}

-- ---- "All numbers are 32-bit, little-endian; .."

abbrev pub little_end : ℕ → List ℕ
little_end n = n % 256 ∷ n / 256 % 256 ∷ n / 65536 % 256 ∷ n / 16777216 ∷ []

-- numbers, one after another
abbrev pub in_bytes : List ℕ → List ℕ
in_bytes = gather little_end

-- ".. sizes and lengths are in raw bytes"
abbrev pub size_of : List ℕ → ℕ
size_of l = 4 * length l

-- ---- a body

-- "place and length" of a text
abbrev pub place_and_length : Text ℕ → List ℕ
place_and_length t = t.place ∷ length (raw t.read) ∷ []

abbrev pub is_skipped : Sequence ℕ → Bool
is_skipped s = same s.residues.read (bytes "000")

abbrev pub is_of : Kind → Sequence ℕ → Bool
is_of k s = same s.moltype.read (bytes (kind_name k))

-- "kinds are 0 skipped, 1 DNA, 2 RNA, 3 AA"; an accepted sequence that isn't skipped has one of these (rule 16)
abbrev pub kind_in : Sequence ℕ → ℕ
kind_in s = cond (is_skipped s) 0 (cond (is_of dna s) (kind_number dna) (cond (is_of rna s) (kind_number rna) (kind_number aa)))

-- "for each feature the places and lengths of key and location"
abbrev pub feature_entry : Feature ℕ → List ℕ
feature_entry f = place_and_length f.key ++ place_and_length f.location

-- "kind, place and length of the residues, and for each feature .."; "A skipped body has kind, place and length of `000` only."
abbrev pub body_of : Sequence ℕ → List ℕ
body_of s = (kind_in s ∷ place_and_length s.residues) ++ cond (is_skipped s) [] (gather feature_entry (features_of s))

-- ---- the table of contents

-- what stands before the sequences' entries: "the count of sequences"
abbrev pub opening : Listing ℕ → List ℕ
opening l = length l.sequences ∷ []

-- "for each its body's start and size", "without gaps": the first starts at `start`, the next where that one ends
abbrev pub entries : ℕ → List (List ℕ) → List ℕ
entries start [] = []
entries start (b ∷ l) = start ∷ size_of b ∷ entries (start + size_of b) l

-- "starts count from the index's first": the first body stands behind the contents, which have two numbers for each sequence
abbrev pub first_body : Listing ℕ → ℕ
first_body l = size_of (opening l) + 8 * length l.sequences

abbrev pub contents_of : Listing ℕ → List ℕ
contents_of l = opening l ++ entries (first_body l) (map body_of l.sequences)

-- ---- the index

abbrev pub index_of : Listing ℕ → List ℕ
index_of l = in_bytes (contents_of l ++ gather body_of l.sequences)

-- ---- its maker: "Maker and checker refuse a listing that isn't accepted with the check's refusal; the maker then gives 34 if room is
-- short."

pub data FindsIndex (w : List ℕ) : Outcome (List ℕ) → Type 0 where
  own : {n p : ℕ} → Checked w (refuse n p) → FindsIndex w (refuse n p)
  index : {l : Listing ℕ} → Checked w (give l) → FindsIndex w (give (index_of l))

pub record IndexSays (w out : List ℕ) (number place size : ℕ) (after : List ℕ) : Type 0 where
  pub outcome : Outcome (List ℕ)
  pub finds : FindsIndex w outcome
  pub lent : Lent out outcome number place size after

-- ---- its checker: "A checker takes it only if it is the one the maker would write for the listing beside it, else refusal 50 .."

-- ".. with the first differing place, or the shorter length if one is a beginning of the other": how many bytes two texts begin with alike
abbrev pub agree : List ℕ → List ℕ → ℕ
agree [] y = 0
agree (a ∷ x) [] = 0
agree (a ∷ x) (b ∷ y) = cond (eqb a b) (suc (agree x y)) 0

pub data ChecksIndex (w x : List ℕ) : Outcome (Listing ℕ) → Type 0 where
  own : {n p : ℕ} → Checked w (refuse n p) → ChecksIndex w x (refuse n p)
  differs : {l : Listing ℕ} → Checked w (give l) → ¬ (x ≡ index_of l) → ChecksIndex w x (refuse 50 (agree (index_of l) x))
  belongs : {l : Listing ℕ} → Checked w (give l) → x ≡ index_of l → ChecksIndex w x (give l)

pub data IndexCheckSays (w x : List ℕ) : (number place : ℕ) → Type 0 where
  refused : {n p : ℕ} → ChecksIndex w x (refuse n p) → IndexCheckSays w x n p
  taken : {l : Listing ℕ} → ChecksIndex w x (give l) → IndexCheckSays w x 0 0

-- ---- lookups with it

-- "Lookups with an index first run that checker. After it they equal the plain lookups": its refusal, and nothing is shown or changed; or
-- what the plain lookup says
pub data WithIndex (w x : List ℕ) (number place : ℕ) (nothing plain : Type 0) : Type 0 where
  refused : ChecksIndex w x (refuse number place) → nothing → WithIndex w x number place nothing plain
  taken : {l : Listing ℕ} → ChecksIndex w x (give l) → plain → WithIndex w x number place nothing plain

module _ (w x : List ℕ) where
  abbrev pub IndexedSequenceSays : (k number place kind : ℕ) (residues : Part) → Type 0
  IndexedSequenceSays k n p d r = WithIndex w x n p (NoSequence d r) (SequenceSays w k n p d r)

  abbrev pub IndexedFeatureSays : (k j : ℕ) (out : List ℕ) (number place : ℕ) → FeatureShown → (after : List ℕ) → Type 0
  IndexedFeatureSays k j out n p y after = WithIndex w x n p (NoFeature y out after) (FeatureSays w k j out n p y after)

  abbrev pub IndexedQualifierSays : (k j i number place : ℕ) (name : Part) (present : Bool) (value : Part) → Type 0
  IndexedQualifierSays k j i n p a b v = WithIndex w x n p (NoQualifier a b v) (QualifierSays w k j i n p a b v)

  abbrev pub IndexedTranslationSays : (k j : ℕ) (out : List ℕ) (number place size : ℕ) (after : List ℕ) → Type 0
  IndexedTranslationSays k j out n p z after = WithIndex w x n p (NothingWritten z out after) (TranslationSays w k j out n p z after)

  abbrev pub IndexedTranslationsSays : (k : ℕ) (out : List ℕ) (number place size : ℕ) (after : List ℕ) → Type 0
  IndexedTranslationsSays k out n p z after = WithIndex w x n p (NothingWritten z out after) (TranslationsSays w k out n p z after)
