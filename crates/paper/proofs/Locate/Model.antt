-- The location reader as a function on lists, byte by byte, for code to be proved against.
-- It is a device of proofs: no definition or promise of the paper names it.
use Prim.Native.Nat.{ℕ, zero, suc, ◌+◌, ◌*◌, ◌-◌}
use Prim.Native.Char.{code}
use mathlib.Core.Bool.{Bool, true, false, ◌&&◌, ◌||◌, cond}
use mathlib.Core.Option.{Option, none, some}
use mathlib.Core.List.{List, [], ◌∷◌}
use lib.ListN.{length}
use lib.Dec.{eqb, leb}
use Rattle.paper.specs.Bytes.{bytes}
use Rattle.paper.specs.Values.{is_digit}
use Rattle.paper.specs.Locations.{Piece, Piece.point, Piece.before, Piece.after, Piece.range, Piece.site, Member, is_segment}
use Rattle.paper.specs.Locations.{Operator, Operator.join, Operator.order, operator_name, Location, Location.one, Location.many}

-- what was read, and what is left
abbrev pub Got : Type 0 → Type 0
Got A = Option (A × List ℕ)

abbrev pub then : {A B : Type 0} → Got A → (A → List ℕ → Got B) → Got B
then none f = none
then (some p) f = f p.0 p.1

-- what follows the bytes x
abbrev pub strip : List ℕ → List ℕ → Option (List ℕ)
strip [] w = some w
strip (a ∷ x) [] = none
strip (a ∷ x) (b ∷ w) = cond (eqb b a) (strip x w) none

abbrev pub behind : {A : Type 0} → Option (List ℕ) → (List ℕ → Got A) → Got A
behind none f = none
behind (some w) f = f w

-- ---- numbers

-- 1 to 9
abbrev pub is_first : ℕ → Bool
is_first b = leb (code "1") b && leb b (code "9")

-- digits that stand after digits of the value v
abbrev pub more : ℕ → List ℕ → ℕ × List ℕ
more v [] = (v, [])
more v (b ∷ w) = cond (is_digit b) (more (v * 10 + (b - code "0")) w) (v, b ∷ w)

abbrev pub num : List ℕ → Got ℕ
num [] = none
num (b ∷ w) = cond (is_first b) (some (more 0 (b ∷ w))) none

-- ---- pieces

-- x with no range behind it; less: `<` stands before it
abbrev pub lone : Bool → ℕ → Piece
lone true x = before x
lone false x = point x

-- behind `..`
abbrev pub second : Bool → ℕ → List ℕ → Got Piece
second less x [] = none
second less x (b ∷ w) =
    cond (eqb b (code ">")) (then (num w) (λ y r. some (range less x true y, r)))
    (then (num (b ∷ w)) (λ y r. some (range less x false y, r)))

-- behind the first number
abbrev pub tail : Bool → ℕ → List ℕ → Got Piece
tail less x [] = some (lone less x, [])
tail less x (a ∷ []) = some (lone less x, a ∷ [])
tail less x (a ∷ b ∷ w) = cond (eqb a (code ".") && eqb b (code ".")) (second less x w) (some (lone less x, a ∷ b ∷ w))

-- behind a first number with no sign
abbrev pub plain : ℕ → List ℕ → Got Piece
plain x [] = some (point x, [])
plain x (a ∷ w) = cond (eqb a (code "^")) (then (num w) (λ y r. some (site x y, r))) (tail false x (a ∷ w))

abbrev pub piece : List ℕ → Got Piece
piece [] = none
piece (b ∷ w) =
    cond (eqb b (code ">")) (then (num w) (λ x r. some (after x, r)))
    (cond (eqb b (code "<")) (then (num w) (tail true))
    (then (num (b ∷ w)) plain))

-- ---- locations, to a depth. c: a complement may stand; l: a list or a site may

abbrev pub uncomplemented : Piece → Member
uncomplemented p = record { complemented = false; piece = p }

abbrev pub leaf : Bool → List ℕ → Got Location
leaf l w = then (piece w) (λ p r. cond (l || is_segment p) (some (one (uncomplemented p), r)) none)

-- where no list may stand, one member is read
abbrev pub member_of : Location → Member
member_of (one m) = m
member_of (many c op ms) = uncomplemented (point 0)

-- the complement
abbrev pub turn : Location → Location
turn (one m) = one (record { complemented = true; piece = m.piece })
turn (many c op ms) = many true op ms

-- behind what a complement holds: `)`
abbrev pub close : Location → List ℕ → Got Location
close t [] = none
close t (b ∷ r) = cond (eqb b (code ")")) (some (turn t, r)) none

-- behind a member: `,` and further members, or `)`
abbrev pub step : (List ℕ → Got (List Member)) → Location → List ℕ → Got (List Member)
step f t [] = none
step f t (b ∷ r) =
    cond (eqb b (code ",")) (then (f r) (λ ms z. some (member_of t ∷ ms, z)))
    (cond (eqb b (code ")")) (some (member_of t ∷ [], r)) none)

-- at most n members
abbrev pub members : (List ℕ → Got Location) → ℕ → List ℕ → Got (List Member)
members f zero w = none
members f (suc n) w = then (f w) (step (members f n))

abbrev pub gathered : Operator → List Member → List ℕ → Got Location
gathered op ms r = cond (leb 2 (length ms)) (some (many false op ms, r)) none

abbrev pub gather : (List ℕ → Got Location) → Operator → List ℕ → Got Location
gather f op w = then (members f (length w) w) (gathered op)

-- fc reads what stands in a complement, fl a member
abbrev pub within : (List ℕ → Got Location) → (List ℕ → Got Location) → Bool → Bool → List ℕ → Got Location
within fc fl c l [] = none
within fc fl c l (b ∷ w) =
    cond (eqb b (code "c")) (cond c (behind (strip (bytes "complement(") (b ∷ w)) (λ z. then (fc z) close)) none)
    (cond (eqb b (code "j")) (cond l (behind (strip (bytes (operator_name join)) (b ∷ w)) (gather fl join)) none)
    (cond (eqb b (code "o")) (cond l (behind (strip (bytes (operator_name order)) (b ∷ w)) (gather fl order)) none)
    (leaf l (b ∷ w))))

abbrev pub read : ℕ → Bool → Bool → List ℕ → Got Location
read zero c l w = leaf l w
read (suc d) c l w = within (read d false l) (read d c false) c l w

-- nothing is left
abbrev pub whole : Location → List ℕ → Option Location
whole t [] = some t
whole t (b ∷ r) = none

abbrev pub wholly : Got Location → Option Location
wholly none = none
wholly (some p) = whole p.0 p.1

abbrev pub locate : List ℕ → Option Location
locate w = wholly (read 2 true true w)
