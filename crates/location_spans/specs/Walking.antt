-- What is promised of the walk over the spans of a location: which spans are left of it.
use Rattle.std.specs.Prelude.{ℕ, ◌+◌, ◌-◌, ◌≤◌, ◌<◌, ◌≡◌, Bool, true, false, List, [], ◌∷◌, ◌++◌, length, get_or, Option, None, Some}
use Prim.Native.Char.{code}
use Rattle.paper.specs.Locations.{Piece, piece_text, complement, Location, is_wrong, breaks25, span_of, spans, operator_number}
use Rattle.paper.specs.Locations as paper
use Rattle.paper.proofs.Locate.Pieces.{Follow}
use Rattle.paper.specs.Demands.{Inside}
use Rattle.location_judge.specs.Places.{RestIs}
use Rattle.location_judge.specs.Judging.{Spells}
use Rattle.location_judge.specs.Readings.{operator_code}
use Rattle.location_spans.specs.declared.walking.Triple.{Triple}
use Rattle.location_spans.specs.declared.walking.Walk.{Walk}
use Rattle.location_spans.specs.declared.walking.Walk.TheVariants as walk
use Rattle.location_spans.specs.declared.walking.Started.{Started}
use Rattle.location_spans.specs.declared.walking.NextSpan.{NextSpan}

abbrev pub span_is : Triple → paper.Span
span_is x = record { first = x.first; last = x.last; marks = x.marks }

-- a segment or site that keeps rule 25, or the complement of one, is written from i to j, and z behind it
pub record Written (s : List ℕ) (L : ℕ) (c : Bool) (p : Piece) (i j : ℕ) (z : List ℕ) : Type 0 where
  pub text : List ℕ
  pub is : complement c (piece_text p) 0 text
  pub from : RestIs s i (text ++ z)
  pub to : RestIs s j z
  pub follow : Follow z
  pub keeps : is_wrong L p ≡ false

-- behind the last member: the end, or `)`
abbrev pub Ends : List ℕ → Type 0
Ends [] = Unit {0}
Ends (b ∷ z) = b ≡ code ")"

-- these spans are left from a place on
pub data Ahead (s : List ℕ) (L : ℕ) : ℕ → List paper.Span → Type 0 where
  last : {c : Bool} {p : Piece} {i j : ℕ} {z : List ℕ} → Written s L c p i j z → Ends z → Ahead s L i (span_of c p ∷ [])
  more : {c : Bool} {p : Piece} {i j : ℕ} {z : List ℕ} {l : List paper.Span} → Written s L c p i j (code "," ∷ z) → Ahead s L (j + 1) l
      → Ahead s L i (span_of c p ∷ l)

-- these spans are left from a place back to low: "Complement of a join or order reverses its members and complements each."
pub data Behind (s : List ℕ) (L low : ℕ) : ℕ → List paper.Span → Type 0 where
  first : {p : Piece} {j : ℕ} {z : List ℕ} → Written s L false p low j z → Behind s L low j (span_of true p ∷ [])
  more : {p : Piece} {i j : ℕ} {z : List ℕ} {l : List paper.Span} → Behind s L low i l → low ≤ i → get_or s i 0 ≡ code ","
      → Written s L false p (i + 1) j z → Behind s L low j (span_of true p ∷ l)

-- these spans are left of a walk, and keep rule 25
abbrev pub Left : List ℕ → ℕ → Walk → List paper.Span → Type 0
Left s L walk.Done l = l ≡ []
Left s L (walk.Ahead at) l = Ahead s L at l
Left s L (walk.Behind low at) l = Behind s L low at l

-- of whichever location the bytes are: its operator; and if it keeps rule 25, all its spans are left
pub record Starts (s : List ℕ) (r : Started) : Type 0 where
  pub operator : (t : Location) → Spells s t → operator_code r.operator ≡ operator_number t
  pub walk : (L : ℕ) (t : Location) → Spells s t → breaks25 L t ≡ false → Left s L r.walk (spans t)

-- more steps than this a walk cannot take, whatever the bytes are
abbrev pub steps_left : ℕ → Walk → ℕ
steps_left size walk.Done = 0
steps_left size (walk.Ahead at) = size + 1 - at
steps_left size (walk.Behind low at) = at + 1 - low

-- a span that is given lies in 1 to L, and the walk gets shorter, whatever the bytes are
abbrev pub step_within : ℕ → ℕ → Walk → Option NextSpan → Type 0
step_within size L w None = Unit {0}
step_within size L w (Some x) = Inside L (span_is x.span) × (steps_left size x.left < steps_left size w)

-- the first of the spans l, and the others are left
abbrev pub Yields : List ℕ → ℕ → List paper.Span → Option NextSpan → Type 0
Yields s L l None = l ≡ []
Yields s L l (Some x) = (k : List paper.Span) × (l ≡ span_is x.span ∷ k) × Left s L x.left k

pub record Steps (s : List ℕ) (L : ℕ) (w : Walk) (r : Option NextSpan) : Type 0 where
  pub within : step_within (length s) L w r
  pub yields : (l : List paper.Span) → Left s L w l → Yields s L l r
