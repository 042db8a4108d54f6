-- What inner functions promise: they read what the paper's model reads, and pass over nothing but text, whatever the bytes of the part
-- are.
use Rattle.std.specs.Prelude.{ℕ, ◌+◌, ◌≤◌, ◌<◌, min, ◌≡◌, Bool, false, ◌&&◌, ◌||◌, not, cond, List, [], ◌++◌, eqb, ltb, Option, None, Some}
use Rattle.std.proofs.Math.Option.{none, some}
use Rattle.paper.specs.Bytes.{bytes}
use Rattle.paper.specs.Locations.{mark, first_of, last_of, signs, is_odd, many, operator_name, operator_number}
use Rattle.paper.specs.Locations as paper
use Rattle.paper.proofs.Locate.Model.{Got, then, num, tail, piece}
use Rattle.location_judge.specs.Places.{RestIs, Stretch}
use Rattle.location_judge.specs.Judging.{AreFacts}
use Rattle.location_judge.specs.declared.pieces.FoundNumber.{FoundNumber}
use Rattle.location_judge.specs.declared.pieces.Reach.{Reach}
use Rattle.location_judge.specs.declared.pieces.FoundPiece.{FoundPiece}
use Rattle.location_judge.specs.declared.judging.Facts.{Facts}
use Rattle.location_judge.specs.declared.judging.Located.{Located}
use Rattle.location_judge.specs.declared.operators.Operator.{Operator}
use Rattle.location_judge.specs.declared.operators.Operator.TheVariants.{Join, Order}
use Rattle.location_judge.specs.declared.operators.Opening.{Opening}

-- the model reads a value that P holds of, and what is left stands at n
pub record Reads {A : Type 0} (s : List ℕ) (P : A → Type 0) (g : Got A) (n : ℕ) : Type 0 where
  pub value : A
  pub rest : List ℕ
  pub is : g ≡ some (value, rest)
  pub stands : RestIs s n rest
  pub holds : P value

-- what is kept of a number
abbrev pub kept : ℕ → ℕ
kept x = min x 4294967296

abbrev pub num_within : List ℕ → ℕ → Option FoundNumber → Type 0
num_within s at None = Unit {0}
num_within s at (Some x) = Stretch s at x.end × (1 ≤ x.value)

abbrev pub NumSays : List ℕ → Got ℕ → Option FoundNumber → Type 0
NumSays s g None = g ≡ none
NumSays s g (Some x) = Reads s (λ (n : ℕ). x.value ≡ kept n) g x.end

pub record Numbers (s : List ℕ) (at : ℕ) (r : Option FoundNumber) : Type 0 where
  pub within : num_within s at r
  pub says : (w : List ℕ) → RestIs s at w → NumSays s (num w) r

-- what is kept of a segment or site; c: it is complemented
pub record Keeps (c : Bool) (p : paper.Piece) (a : Reach) (odd : Bool) : Type 0 where
  pub first : a.first ≡ kept (first_of p)
  pub last : a.last ≡ kept (last_of p)
  pub marks : a.marks ≡ mark c 1 + signs p
  pub odds : odd ≡ is_odd p

abbrev pub piece_within : List ℕ → ℕ → Option FoundPiece → Type 0
piece_within s at None = Unit {0}
piece_within s at (Some x) = Stretch s at x.end × (1 ≤ x.reach.first) × (1 ≤ x.reach.last)

abbrev pub PieceSays : List ℕ → Bool → Got paper.Piece → Option FoundPiece → Type 0
PieceSays s c g None = g ≡ none
PieceSays s c g (Some x) = Reads s (λ (p : paper.Piece). Keeps c p x.reach x.odd) g x.end

-- whichever segment or site f makes of the second number, if x, marks and odd are what is kept of it
pub record Pairs (s : List ℕ) (at x marks : ℕ) (odd : Bool) (r : Option FoundPiece) : Type 0 where
  pub within : piece_within s at r
  pub says : (c : Bool) (f : ℕ → paper.Piece) → ((y : ℕ) → Keeps c (f y) (record { first = x; last = kept y; marks = marks }) odd)
      → (w : List ℕ) → RestIs s at w → PieceSays s c (then (num w) (λ y z. some (f y, z))) r

-- whichever first number x is kept of
pub record Tails (s : List ℕ) (at x marks : ℕ) (less : Bool) (r : Option FoundPiece) : Type 0 where
  pub within : piece_within s at r
  pub says : (c : Bool) (X : ℕ) → x ≡ kept X → marks ≡ mark c 1 + mark less 2 → (w : List ℕ) → RestIs s at w → PieceSays s c (tail less X w) r

pub record Pieces (s : List ℕ) (at : ℕ) (c : Bool) (r : Option FoundPiece) : Type 0 where
  pub within : piece_within s at r
  pub says : (w : List ℕ) → RestIs s at w → PieceSays s c (piece w) r

-- rule 25, of what is kept of a segment or site
abbrev pub wrong_of : ℕ → ℕ → ℕ → ℕ → Bool
wrong_of L x y marks = ltb L x || ltb L y || cond (ltb marks 8) (ltb y x) (not (eqb y (x + 1) || (eqb x L && eqb y 1)))

-- ---- locations

abbrev pub out_within : List ℕ → ℕ → Option Located → Type 0
out_within s at None = Unit {0}
out_within s at (Some x) = Stretch s at x.end

abbrev pub OutSays : List ℕ → ℕ → Got paper.Location → Option Located → Type 0
OutSays s top g None = g ≡ none
OutSays s top g (Some x) = Reads s (λ (t : paper.Location). AreFacts top t x.facts) g x.end

-- r is what the model g reads
pub record Outs (s : List ℕ) (at top : ℕ) (g : List ℕ → Got paper.Location) (r : Option Located) : Type 0 where
  pub within : out_within s at r
  pub says : (w : List ℕ) → RestIs s at w → OutSays s top (g w) r

-- which of the paper's operators it is
abbrev pub operator_of : Operator → paper.Operator
operator_of Join = paper.join
operator_of Order = paper.order

-- an operator's number
abbrev pub number_of : paper.Operator → ℕ
number_of o = operator_number (many false o [])

-- the number of an operator or of none, as `operator_number` has it of a location
abbrev pub operator_code : Option Operator → ℕ
operator_code None = 0
operator_code (Some o) = number_of (operator_of o)

abbrev pub list_within : List ℕ → ℕ → Option Opening → Type 0
list_within s at None = Unit {0}
list_within s at (Some x) = (at < x.first) × Stretch s at x.first

abbrev pub ListSays : List ℕ → List ℕ → Option Opening → Type 0
ListSays s w None = (o : paper.Operator) (z : List ℕ) → w ≡ bytes (operator_name o) ++ z → ⊥
ListSays s w (Some x) = (z : List ℕ) × (w ≡ bytes (operator_name (operator_of x.operator)) ++ z) × RestIs s x.first z

-- r is the operator that stands at a place
pub record Lists (s : List ℕ) (at : ℕ) (r : Option Opening) : Type 0 where
  pub within : list_within s at r
  pub says : (w : List ℕ) → RestIs s at w → ListSays s w r

-- the facts of members and one more
abbrev pub with_member : Facts → Facts → Facts
with_member f g =
    record { wrong = f.wrong || g.wrong; complemented = f.complemented || g.complemented; unjudged = f.unjudged || g.unjudged }
