-- Locations: "From 002, paragraphs 64 to 70; x and y are numbers." Trees, the texts that they are written as, their spans, and rule 25.
use Rattle.std.specs.Prelude.{ℕ, ◌+◌, ◌≤◌, ◌≡◌, Bool, true, false, ◌&&◌, ◌||◌, not, List, [], ◌∷◌, map, reverse, length, eqb, ltb}
use Prim.Native.String.{String}
use Rattle.paper.specs.Form.{Form, lit, ◌·◌, given}
use Rattle.paper.specs.Values.{Number}

-- "Segment: `x`, `x..y`, `<x`, `>x`, `<x..y`, `x..>y`, `<x..>y`. Site: `x^y`"
pub data Piece : Type 0 where
  -- x
  point : ℕ → Piece
  -- <x
  before : ℕ → Piece
  -- >x
  after : ℕ → Piece
  -- x..y, with whether `<` is written before x and `>` before y
  range : (less : Bool) (x : ℕ) (more : Bool) (y : ℕ) → Piece
  -- x^y
  site : ℕ → ℕ → Piece

abbrev pub is_segment : Piece → Bool
is_segment (point x) = true
is_segment (before x) = true
is_segment (after x) = true
is_segment (range less x more y) = true
is_segment (site x y) = false

-- a piece, or the complement of one
pub record Member : Type 0 where
  pub complemented : Bool
  pub piece : Piece

pub data Operator : Type 0 where
  join : Operator
  order : Operator

-- "Location: segment; site; complement of either; join or order of two or more members; complement of a join or order of segments only."
pub data Location : Type 0 where
  one : Member → Location
  many : (complemented : Bool) → Operator → List Member → Location

-- ---- how a location is written

abbrev pub number : ℕ → Form
number n at w = Number n w

-- a sign, where it is written
abbrev pub sign : Bool → String → Form
sign true x = lit x
sign false x = lit ""

abbrev pub piece_text : Piece → Form
piece_text (point x) = number x
piece_text (before x) = lit "<" · number x
piece_text (after x) = lit ">" · number x
piece_text (range less x more y) = sign less "<" · number x · lit ".." · sign more ">" · number y
piece_text (site x y) = number x · lit "^" · number y

-- complement( .. )
abbrev pub complement : Bool → Form → Form
complement true F = lit "complement(" · F · lit ")"
complement false F = F

abbrev pub member_text : Member → Form
member_text m = complement m.complemented (piece_text m.piece)

-- "A member is a segment or a complement of one", inside a complement "segments only": "complement never stands in complement"
abbrev pub Fits : Bool → Member → Type 0
Fits complemented m = (is_segment m.piece ≡ true) × ((complemented && m.complemented) ≡ false)

-- "Members are separated by `,`; no blanks (house)."
abbrev pub members_text : Bool → List Member → Form
members_text c [] = lit ""
members_text c (m ∷ []) = given (Fits c m) (member_text m)
members_text c (m ∷ n ∷ l) = given (Fits c m) (member_text m) · lit "," · members_text c (n ∷ l)

abbrev pub operator_name : Operator → String
operator_name join = "join("
operator_name order = "order("

abbrev pub location_text : Location → Form
location_text (one m) = member_text m
location_text (many c op l) = complement c (lit (operator_name op) · given (2 ≤ length l) (members_text c l) · lit ")")

-- the text w, as read, is the location t
pub record Locates (t : Location) (w : List ℕ) : Type 0 where
  pub is : location_text t 0 w

-- ---- spans: "triples of 32-bit numbers (first, last, marks) in reading order from the feature's 5' end"

pub record Span : Type 0 where
  pub first : ℕ
  pub last : ℕ
  pub marks : ℕ

-- "A lone `x`, `<x` or `>x` has first = last = x; a site has x and y."
abbrev pub first_of : Piece → ℕ
first_of (point x) = x
first_of (before x) = x
first_of (after x) = x
first_of (range less x more y) = x
first_of (site x y) = x

abbrev pub last_of : Piece → ℕ
last_of (point x) = x
last_of (before x) = x
last_of (after x) = x
last_of (range less x more y) = y
last_of (site x y) = y

abbrev pub mark : Bool → ℕ → ℕ
mark true n = n
mark false n = 0

-- "Marks add 1 complement, 2 where `<` is written, 4 where `>` is, 8 site."
abbrev pub signs : Piece → ℕ
signs (point x) = 0
signs (before x) = 2
signs (after x) = 4
signs (range less x more y) = mark less 2 + mark more 4
signs (site x y) = 8

abbrev pub span_of : Bool → Piece → Span
span_of complemented p = record { first = first_of p; last = last_of p; marks = mark complemented 1 + signs p }

abbrev pub member_span : Member → Span
member_span m = span_of m.complemented m.piece

-- "Complement of a join or order reverses its members and complements each."
abbrev pub spans : Location → List Span
spans (one m) = member_span m ∷ []
spans (many false op l) = map member_span l
spans (many true op l) = reverse (map (λ (m : Member). span_of true m.piece) l)

-- operator none, join, order
abbrev pub operator_number : Location → ℕ
operator_number (one m) = 0
operator_number (many c join l) = 1
operator_number (many c order l) = 2

-- ---- symbols: "numbers, operator words, `..`, `^`, `<`, `>`, commas and brackets" (02, request 7)

abbrev pub piece_symbols : Piece → ℕ
piece_symbols (point x) = 1
piece_symbols (before x) = 2
piece_symbols (after x) = 2
piece_symbols (range less x more y) = mark less 1 + 1 + 1 + mark more 1 + 1
piece_symbols (site x y) = 3

-- an operator word and its `(`, what stands between, and the `)`: each bracket is a symbol
abbrev pub enclosed : ℕ → ℕ
enclosed n = 2 + n + 1

-- `complement` is an operator word
abbrev pub complement_symbols : Bool → ℕ → ℕ
complement_symbols true n = enclosed n
complement_symbols false n = n

abbrev pub member_symbols : Member → ℕ
member_symbols m = complement_symbols m.complemented (piece_symbols m.piece)

-- with the commas between them
abbrev pub members_symbols : List Member → ℕ
members_symbols [] = 0
members_symbols (m ∷ []) = member_symbols m
members_symbols (m ∷ n ∷ l) = member_symbols m + 1 + members_symbols (n ∷ l)

-- how many symbols a location has
abbrev pub symbol_count : Location → ℕ
symbol_count (one m) = member_symbols m
symbol_count (many c op l) = complement_symbols c (enclosed (members_symbols l))

-- ---- what rules and translations ask of a location

abbrev pub members_of : Location → List Member
members_of (one m) = m ∷ []
members_of (many c op l) = l

abbrev pub any : {A : Type 0} → (A → Bool) → List A → Bool
any f [] = false
any f (a ∷ l) = f a || any f l

-- rule 25: "position above L, x above y in a range, or a false site"; "Site: `x^y`, false unless y = x + 1, or x = L and y = 1."
abbrev pub is_wrong : ℕ → Piece → Bool
is_wrong L (point x) = ltb L x
is_wrong L (before x) = ltb L x
is_wrong L (after x) = ltb L x
is_wrong L (range less x more y) = ltb L x || ltb L y || ltb y x
is_wrong L (site x y) = ltb L x || ltb L y || not (eqb y (x + 1) || (eqb x L && eqb y 1))

abbrev pub breaks25 : ℕ → Location → Bool
breaks25 L t = any (λ (m : Member). is_wrong L m.piece) (members_of t)

-- rule 26: a complement is written
abbrev pub has_complement : Location → Bool
has_complement (one m) = m.complemented
has_complement (many c op l) = c || any (λ (m : Member). m.complemented) l

-- "a site, or a lone `<x` or `>x`"
abbrev pub is_odd : Piece → Bool
is_odd (point x) = false
is_odd (before x) = true
is_odd (after x) = true
is_odd (range less x more y) = false
is_odd (site x y) = true

-- "its location has an order, a site, or a lone `<x` or `>x`"
abbrev pub leaves_unjudged : Location → Bool
leaves_unjudged t = eqb (operator_number t) 2 || any (λ (m : Member). is_odd m.piece) (members_of t)
