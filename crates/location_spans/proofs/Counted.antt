-- How many `,` a location is written with: none in a segment or site, and one less than it has spans in all. So they are counted, unread.
use Prim.Native.Nat.{ℕ, ◌+◌, ◌-◌, ◌≤◌}
use Prim.Native.Char.{code}
use Prim.Native.String.{String}
use native.Mathlib.Omega.{arith}
use mathlib.Core.Path.{◌≡◌, refl, ap, ◌∙◌, subst}
use mathlib.Core.Bool.{Bool, true, false}
use mathlib.Core.List.{List, [], ◌∷◌, ◌++◌, map}
use lib.ListN.{length, length-map, length-reverse, drop, drop_of_length-le}
use lib.Dec.{eqb}
use borrow.Author.Tests.{ne_eqb}
use Rattle.paper.specs.Bytes.{bytes, raw, all}
use Rattle.paper.specs.Form.{Form, lit, ◌·◌, given}
use Rattle.paper.specs.Values.{is_digit}
use Rattle.paper.specs.Locations.{Piece, point, before, after, range, site, Member, Operator, join, order, Location, one, many, Locates, span_of, member_span, spans, members_of}
use Rattle.paper.specs.Locations.{number, sign, piece_text, complement, member_text, members_text, operator_name, location_text}
use Rattle.paper.proofs.Texts.{raw_append}
use Rattle.paper.proofs.Decimal.{digit_bounds}
use Rattle.read_bytes.specs.Numbers.{flag}
use Rattle.location_judge.proofs.Digits.{plain_digit}
use Rattle.location_spans.specs.Room.{CountsSpans}

abbrev pub commas : List ℕ → ℕ
commas [] = 0
commas (b ∷ s) = flag (eqb b (code ",")) + commas s

commas_append : (u v : List ℕ) → commas (u ++ v) ≡ commas u + commas v
commas_append [] v = omega arith
commas_append (b ∷ u) v = omega (arith, commas_append u v)

-- ---- forms

-- a text of the form F is written with n of them
pub record Has (F : Form) (n : ℕ) : Type 0 where
  pub is : (at : ℕ) (w : List ℕ) → F at w → commas (raw w) ≡ n

infixl 60 ◌⊗◌
◌⊗◌ : {F G : Form} {n m : ℕ} → Has F n → Has G m → Has (F · G) (n + m)
◌⊗◌ h k =
    record {
      is = λ at w (u, v, q, x, y). rw (q, raw_append u v, commas_append (raw u) (raw v), h.is at u x, k.is (at + length u) v y);
    }

so : {F : Form} {n m : ℕ} → Has F n → n ≡ m → Has F m
so {F} h e = subst (Has F) e h

where_so : {A : Type 0} {F : Form} {n : ℕ} → Has F n → Has (given A F) n
where_so h = record { is = λ at w x. h.is at w x.1 }

word : (x : String) → Has (lit x) (commas (raw (bytes x)))
word x = record { is = λ at w q. ap (λ (l : List ℕ). commas (raw l)) q }

-- in brackets
enclosed : {F G : Form} {n : ℕ} → Has F 0 → Has G n → Has (F · G · lit ")") n
enclosed f g = so (f ⊗ g ⊗ word ")") (omega arith)

digits : (n : ℕ) → Has (number n) 0
digits n = record { is = λ at w x. go w x.digits }
  where
    go : (w : List ℕ) → all is_digit w → commas (raw w) ≡ 0
    go [] h = refl
    go (b ∷ w) h =
        let (p, q) = digit_bounds b h.0 in
        let k = go w h.1 in
        rw (plain_digit b p q, ne_eqb b (code ",") (omega arith), k)

less : (b : Bool) → Has (sign b "<") 0
less true = word "<"
less false = word ""

more : (b : Bool) → Has (sign b ">") 0
more true = word ">"
more false = word ""

-- ---- locations

pub has_piece : (p : Piece) → Has (piece_text p) 0
has_piece (point x) = digits x
has_piece (before x) = word "<" ⊗ digits x
has_piece (after x) = word ">" ⊗ digits x
has_piece (range l x m y) = less l ⊗ digits x ⊗ word ".." ⊗ more m ⊗ digits y
has_piece (site x y) = digits x ⊗ word "^" ⊗ digits y

has_complement_lem : (c : Bool) {F : Form} {n : ℕ} → Has F n → Has (complement c F) n
has_complement_lem true h = enclosed (word "complement(") h
has_complement_lem false h = h

has_member : (m : Member) → Has (member_text m) 0
has_member m = has_complement_lem m.complemented (has_piece m.piece)

has_members : (c : Bool) (l : List Member) → Has (members_text c l) (length l - 1)
has_members c [] = word ""
has_members c (m ∷ []) = where_so (has_member m)
has_members c (m ∷ n ∷ l) = so (where_so (has_member m) ⊗ word "," ⊗ has_members c (n ∷ l)) (omega arith)

has_operator : (op : Operator) → Has (lit (operator_name op)) 0
has_operator join = word "join("
has_operator order = word "order("

has_location : (t : Location) → Has (location_text t) (length (members_of t) - 1)
has_location (one m) = has_member m
has_location (many c op l) = has_complement_lem c (enclosed (has_operator op) (where_so (has_members c l)))

-- a span for each member
spans_count : (t : Location) → length (spans t) ≡ length (members_of t)
spans_count (one m) = refl
spans_count (many true op ms) =
    length-reverse (map (λ (m : Member). span_of true m.piece) ms) ∙ length-map ms (λ (m : Member). span_of true m.piece)
spans_count (many false op ms) = length-map ms member_span

some_member : (t : Location) {w : List ℕ} → Locates t w → 1 ≤ length (members_of t)
some_member (one m) x = omega arith
some_member (many true op l) x = omega (arith, x.is.3.4.3.4.0)
some_member (many false op l) x = omega (arith, x.is.3.4.0)

-- ---- the bytes one after another

-- n is one more than the commas before i
pub record Counting (s : List ℕ) (i n : ℕ) : Type 0 where
  pub few : n ≤ i + 1
  pub left : n + commas (drop i s) ≡ commas s + 1

module _ {s : List ℕ} {i n : ℕ} (p : Counting s i n) where
  pub counting_all : length s ≤ i → CountsSpans s n
  counting_all h t x =
      omega (
        arith,
        rw (drop_of_length-le s h) at p.left,
        ap commas x.written,
        (has_location t).is 0 x.text x.located.is,
        some_member t x.located,
        spans_count t,
      )
