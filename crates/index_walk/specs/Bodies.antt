-- What is promised of the walk that lays an index: of whatever items of the paper's tree stand where it goes.
use Rattle.std.specs.Prelude.{◌≡◌, ℕ, ◌+◌, ◌*◌, ◌<◌, ◌≤◌, List, [], ◌∷◌, ◌++◌, map, length, drop}
use Rattle.std.proofs.lemmas.List.Edits.{sets}
use Rattle.paper.specs.Bytes.{raw}
use Rattle.paper.specs.Lists.{gather}
use Rattle.paper.specs.Form.{each}
use Rattle.paper.specs.Tree.{Text, Feature, Sequence}
use Rattle.paper.specs.Layout.{child, feature, sequence}
use Rattle.paper.specs.Answers.{limit}
use Rattle.paper.specs.Index.{in_bytes, size_of, place_and_length, kind_in, feature_entry, body_of, entries}
use Rattle.lent_room.specs.Room.{Laid, Agrees, Lays, LaysMore}
use Rattle.lent_room.specs.declared.Pass.{Pass}
use Rattle.lent_room.specs.declared.Pass.TheVariants.{Measure, Write, Compare}
use Rattle.read_steps.specs.Follow.{Starts, closing}
use Rattle.walk_steps.specs.Stands.{Stands, IsPart}
use Rattle.walk_steps.specs.declared.Range.{Range}
use Rattle.walk_items.specs.Items.{IsSequence}
use Rattle.walk_items.specs.declared.FoundSequence.{FoundSequence}
use Rattle.index_walk.specs.declared.Sized.{Sized}

-- ---- the numbers of an item

-- the length of whichever text the part is
pub record SizeOfPart (p : Range) (r : ℕ) : Type 0 where
  pub says : (s : List ℕ) (t : Text ℕ) → length s ≤ limit → IsPart s t p → r ≡ length (raw t.read)

pub record IsEntry (key location : Range) (r : List ℕ) : Type 0 where
  pub says : (s : List ℕ) (f : Feature ℕ) → length s ≤ limit → IsPart s f.key key → IsPart s f.location location → r ≡ feature_entry f

pub record KindOfBody (s : List ℕ) (moltype residues : Range) (r : ℕ) : Type 0 where
  pub says : (q : Sequence ℕ) → IsPart s q.moltype moltype → IsPart s q.residues residues → r ≡ kind_in q

pub record IsHead (kind : ℕ) (residues : Range) (r : List ℕ) : Type 0 where
  pub says : (s : List ℕ) (t : Text ℕ) → length s ≤ limit → IsPart s t residues → r ≡ kind ∷ place_and_length t

-- ---- a body

-- what 32 bits hold
abbrev pub InWord : ℕ → Type 0
InWord n = n < 4294967296

-- the numbers l are laid behind whatever was laid before, and that is their size
pub record LaidNumbers (p : Pass) (l : List ℕ) (was : Laid) (given room : List ℕ) (r : Sized) (after : List ℕ) : Type 0 where
  pub laid : LaysMore given (in_bytes l) p was r.laid room after
  pub size : r.size ≡ size_of l

pub record LaysFeatures (p : Pass) (s : List ℕ) (first : ℕ) (was : Laid) (given room : List ℕ) (r : Sized) (after : List ℕ) : Type 0 where
  pub kept : length after ≡ length room
  pub says : length s ≤ limit → (l : List (Feature ℕ)) (e : ℕ) → Stands (each (child feature) l) s first e → Starts closing (drop e s)
      → InWord (size_of (gather feature_entry l)) → LaidNumbers p (gather feature_entry l) was given room r after

pub record LaysBody (p : Pass) (s : List ℕ) (found : FoundSequence) (was : Laid) (given room : List ℕ) (r : Sized) (after : List ℕ) : Type 0 where
  pub kept : length after ≡ length room
  pub says : length s ≤ limit → (q : Sequence ℕ) (e : ℕ) → IsSequence s q e found → InWord (size_of (body_of q)) → LaidNumbers p (body_of q) was given room r after

-- ---- the index

-- its numbers, for the sequences l
abbrev pub numbers_of : List (Sequence ℕ) → List ℕ
numbers_of l = (length l ∷ entries (4 + 8 * length l) (map body_of l)) ++ gather body_of l

-- x is in the room, if it fits; or how far the given bytes are x
abbrev pub IndexLaid : Pass → (x given room : List ℕ) → Laid → List ℕ → Type 0
IndexLaid Measure x given room r after = Unit {0}
IndexLaid Write x given room r after = length x ≤ length room → after ≡ sets room 0 x
IndexLaid Compare x given room r after = Agrees x 0 given r

-- behind the count, which was laid in the room `before`
pub record LaysSequences (p : Pass) (s : List ℕ) (first bodies : ℕ) (count : Laid) (given room : List ℕ) (r : Laid) (after : List ℕ) : Type 0 where
  pub kept : length after ≡ length room
  pub says : (l : List (Sequence ℕ)) (before : List ℕ) → Lays given 0 (in_bytes (length l ∷ [])) before p count room
      → length s ≤ limit → (e : ℕ) → Stands (each (child sequence) l) s first e → Starts closing (drop e s)
      → bodies ≡ 4 + 8 * length l → InWord (size_of (numbers_of l)) → IndexLaid p (in_bytes (numbers_of l)) given before r after

pub record LaysIndex (p : Pass) (s : List ℕ) (first total bodies : ℕ) (given room : List ℕ) (r : Laid) (after : List ℕ) : Type 0 where
  pub kept : length after ≡ length room
  pub says : length s ≤ limit → (l : List (Sequence ℕ)) (e : ℕ) → Stands (each (child sequence) l) s first e → Starts closing (drop e s)
      → total ≡ length l → bodies ≡ 4 + 8 * length l → InWord (size_of (numbers_of l)) → IndexLaid p (in_bytes (numbers_of l)) given room r after
