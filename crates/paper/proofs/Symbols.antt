-- A location's symbols, request 7 of 02: each takes a character of its text or more, and each span but one brings two of them.
use Prim.Native.Nat.{ℕ, ◌+◌, ◌*◌, ◌/◌, ◌≤◌}
use Prim.Native.String.{String}
use native.Mathlib.Omega.{arith}
use mathlib.Core.Path.{◌≡◌, refl, ◌∙◌}
use mathlib.Core.Bool.{Bool, true, false}
use mathlib.Core.List.{List, [], ◌∷◌, map}
use lib.ListN.{length, length-map, length-reverse}
use Rattle.paper.specs.Bytes.{bytes}
use Rattle.paper.specs.Form.{Form, lit, ◌·◌, given}
use Rattle.paper.specs.Values.{Leads}
use Rattle.paper.specs.Locations.{Piece, point, before, after, range, site, Member, Operator, join, order, Location, one, many, Locates, span_of, member_span, spans, members_of, mark}
use Rattle.paper.specs.Locations.{number, sign, piece_text, complement, member_text, members_text, operator_name, location_text}
use Rattle.paper.specs.Locations.{piece_symbols, enclosed, complement_symbols, member_symbols, members_symbols, symbol_count}
use Rattle.paper.proofs.Least.{AtLeast, any, enough, word, ◌⊗◌}

-- ---- symbols and characters

where_so : {A : Type 0} {F : Form} {n : ℕ} → AtLeast F n → AtLeast (given A F) n
where_so h = record { has = λ at w x. h.has at w x.1 }

in_number : (n : ℕ) → AtLeast (number n) 1
in_number n = record { has = λ at w x. some w x.leads }
  where
    some : (w : List ℕ) → Leads w → 1 ≤ length w
    some [] h = absurd h
    some (b ∷ w) h = omega arith

in_sign : (b : Bool) (x : String) → AtLeast (sign b x) (mark b (length (bytes x)))
in_sign true x = word (bytes x)
in_sign false x = any _

in_piece : (p : Piece) → AtLeast (piece_text p) (piece_symbols p)
in_piece (point x) = in_number x
in_piece (before x) = word (bytes "<") ⊗ in_number x
in_piece (after x) = word (bytes ">") ⊗ in_number x
in_piece (range l x m y) = enough (in_sign l "<" ⊗ in_number x ⊗ word (bytes "..") ⊗ in_sign m ">" ⊗ in_number y) (omega arith)
in_piece (site x y) = in_number x ⊗ word (bytes "^") ⊗ in_number y

in_brackets : {F G : Form} {m n : ℕ} → AtLeast F m → 2 ≤ m → AtLeast G n → AtLeast (F · G · lit ")") (enclosed n)
in_brackets f h g = enough (f ⊗ g ⊗ word (bytes ")")) (omega (arith, h))

in_complement : (c : Bool) {F : Form} {n : ℕ} → AtLeast F n → AtLeast (complement c F) (complement_symbols c n)
in_complement true h = enough (in_brackets (word (bytes "complement(")) (omega arith) h) (omega arith)
in_complement false h = h

in_member : (m : Member) → AtLeast (member_text m) (member_symbols m)
in_member m = in_complement m.complemented (in_piece m.piece)

in_members : (c : Bool) (l : List Member) → AtLeast (members_text c l) (members_symbols l)
in_members c [] = any _
in_members c (m ∷ []) = where_so (in_member m)
in_members c (m ∷ n ∷ l) = where_so (in_member m) ⊗ word (bytes ",") ⊗ in_members c (n ∷ l)

in_operator : (op : Operator) → AtLeast (lit (operator_name op)) 2
in_operator join = enough (word (bytes "join(")) (omega arith)
in_operator order = enough (word (bytes "order(")) (omega arith)

in_location : (t : Location) → AtLeast (location_text t) (symbol_count t)
in_location (one m) = in_member m
in_location (many c op l) = in_complement c (in_brackets (in_operator op) (omega arith) (where_so (in_members c l)))

pub symbols_most : {t : Location} {w : List ℕ} → Locates t w → symbol_count t ≤ length w
symbols_most {t} {w} x = (in_location t).has 0 w x.is

-- ---- spans and symbols

-- a span for each member
pub spans_count : (t : Location) → length (spans t) ≡ length (members_of t)
spans_count (one m) = refl
spans_count (many true op ms) =
    length-reverse (map (λ (m : Member). span_of true m.piece) ms) ∙ length-map ms (λ (m : Member). span_of true m.piece)
spans_count (many false op ms) = length-map ms member_span

pub piece_some : (p : Piece) → 1 ≤ piece_symbols p
piece_some (point x) = omega arith
piece_some (before x) = omega arith
piece_some (after x) = omega arith
piece_some (range l x m y) = omega arith
piece_some (site x y) = omega arith

complement_more : (c : Bool) (n : ℕ) → n ≤ complement_symbols c n
complement_more true n = omega arith
complement_more false n = omega arith

pub member_some : (m : Member) → 1 ≤ member_symbols m
member_some m = omega (arith, piece_some m.piece, complement_more m.complemented (piece_symbols m.piece))

-- each member, and a comma before each but the first
pub members_some : (l : List Member) → 2 * length l ≤ members_symbols l + 1
members_some [] = omega arith
members_some (m ∷ []) = omega (arith, member_some m)
members_some (m ∷ n ∷ l) = omega (arith, member_some m, members_some (n ∷ l))

pub spans_symbols : (t : Location) → 2 * length (members_of t) ≤ symbol_count t + 1
spans_symbols (one m) = omega (arith, member_some m)
spans_symbols (many c op l) = omega (arith, members_some l, complement_more c (enclosed (members_symbols l)))

pub spans_most : {t : Location} {w : List ℕ} → Locates t w → length (spans t) ≤ (length w + 1) / 2
spans_most {t} x = omega (arith, spans_count t, spans_symbols t, symbols_most x)
