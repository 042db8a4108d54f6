-- Forms with a rest: `F w r` says that w starts with a text of F and that r is left. A reader goes by them; they say what the paper's
-- forms say.
use Prim.Native.Nat.{ℕ, ◌+◌, ◌≤◌}
use Prim.Native.String.{String}
use mathlib.Core.Path.{◌≡◌, refl, sym, ap, ◌∙◌}
use mathlib.Core.Bool.{Bool, true, false}
use mathlib.Core.List.{List, [], ◌∷◌, ◌++◌, append_assoc, append-nil}
use native.Mathlib.Omega.{arith}
use lib.ListN.{length, length-append}
use Rattle.paper.specs.Bytes.{bytes}
use Rattle.paper.specs.Form.{Form, lit, ◌·◌, given}
use Rattle.paper.specs.Values.{Number}
use Rattle.paper.specs.Locations.{Piece, Piece.point, Piece.before, Piece.after, Piece.range, Piece.site}
use Rattle.paper.specs.Locations.{Member, Location, Location.one, Location.many}
use Rattle.paper.specs.Locations.{number, sign, piece_text, complement, member_text, Fits, members_text, operator_name, location_text, Locates}

infixr 60 ◌⨟◌
abbrev pub Rest : Type 1
Rest = List ℕ → List ℕ → Type 0

-- ---- the paper's words, with a rest

abbrev pub lit_rest : String → Rest
lit_rest x w r = w ≡ bytes x ++ r

-- F, and then G
abbrev pub ◌⨟◌ : Rest → Rest → Rest
◌⨟◌ F G w r = (m : List ℕ) × F w m × G m r

abbrev pub given_rest : Type 0 → Rest → Rest
given_rest A F w r = A × F w r

abbrev pub number_rest : ℕ → Rest
number_rest n w r = (u : List ℕ) × (w ≡ u ++ r) × Number n u

abbrev pub sign_rest : Bool → String → Rest
sign_rest true x = lit_rest x
sign_rest false x = lit_rest ""

abbrev pub piece_rest : Piece → Rest
piece_rest (point x) = number_rest x
piece_rest (before x) = lit_rest "<" ⨟ number_rest x
piece_rest (after x) = lit_rest ">" ⨟ number_rest x
piece_rest (range less x more y) = sign_rest less "<" ⨟ number_rest x ⨟ lit_rest ".." ⨟ sign_rest more ">" ⨟ number_rest y
piece_rest (site x y) = number_rest x ⨟ lit_rest "^" ⨟ number_rest y

-- x, F and `)`
abbrev pub bracketed : String → Rest → Rest
bracketed x F = lit_rest x ⨟ F ⨟ lit_rest ")"

abbrev pub complement_rest : Bool → Rest → Rest
complement_rest true F = bracketed "complement(" F
complement_rest false F = F

abbrev pub member_rest : Member → Rest
member_rest m = complement_rest m.complemented (piece_rest m.piece)

-- a member that stands in a list; c: the list is complemented
abbrev pub fitting_rest : Bool → Member → Rest
fitting_rest c m = given_rest (Fits c m) (member_rest m)

-- one or more, with `,` between
abbrev pub list_rest : (Member → Rest) → List Member → Rest
list_rest F [] w r = ⊥
list_rest F (m ∷ []) w r = F m w r
list_rest F (m ∷ n ∷ l) w r = (F m ⨟ lit_rest "," ⨟ list_rest F (n ∷ l)) w r

abbrev pub location_rest : Location → Rest
location_rest (one m) = member_rest m
location_rest (many c op l) = complement_rest c (bracketed (operator_name op) (given_rest (2 ≤ length l) (list_rest (fitting_rest c) l)))

-- ---- they say the same

-- w is a text of F, and then r
abbrev pub Before : Form → ℕ → Rest
Before F at w r = (u : List ℕ) × (w ≡ u ++ r) × F at u

-- G is F with a rest, at every place
pub record Same (F : Form) (G : Rest) : Type 0 where
  pub leaves : (at : ℕ) {w r : List ℕ} → Before F at w r → G w r
  pub before : (at : ℕ) {w r : List ℕ} → G w r → Before F at w r

pub same_lit : (x : String) → Same (lit x) (lit_rest x)
same_lit x = record { leaves = λ at {w} {r} p. p.1 ∙ ap (λ (u : List ℕ). u ++ r) p.2; before = λ at e. (bytes x, e, refl) }

pub same_number : (n : ℕ) → Same (number n) (number_rest n)
same_number n = record { leaves = λ at p. p; before = λ at p. p }

pub same_then : {F G : Form} {P Q : Rest} → Same F P → Same G Q → Same (F · G) (P ⨟ Q)
same_then f g =
    record {
      leaves = λ at {w} {r} p.
          let s = p.2 in (
            s.1 ++ r,
            f.leaves at (s.0, p.1 ∙ ap (λ (u : List ℕ). u ++ r) s.2 ∙ append_assoc s.0 s.1 r, s.3),
            g.leaves (at + length s.0) (s.1, refl, s.4),
          );
      before = λ at {w} {r} p.
          let x = f.before at p.1 in
          let y = g.before (at + length x.0) p.2 in
          (x.0 ++ y.0, x.1 ∙ ap (λ (u : List ℕ). x.0 ++ u) y.1 ∙ sym (append_assoc x.0 y.0 r), (x.0, y.0, refl, x.2, y.2));
    }

-- the paper groups to the left, a reader to the right
pub same_assoc : {F : Form} {P Q R : Rest} → Same F ((P ⨟ Q) ⨟ R) → Same F (P ⨟ Q ⨟ R)
same_assoc s =
    record {
      leaves = λ at p. let x = s.leaves at p in (x.1.0, x.1.1, (x.0, x.1.2, x.2));
      before = λ at p. s.before at (p.2.0, (p.0, p.1, p.2.1), p.2.2);
    }

pub same_given : {F : Form} {P : Rest} (A : Type 0) → (A → Same F P) → Same (given A F) (given_rest A P)
same_given A f =
    record {
      leaves = λ at p. (p.2.0, (f p.2.0).leaves at (p.0, p.1, p.2.1));
      before = λ at p. let x = (f p.0).before at p.1 in (x.0, x.1, (p.0, x.2));
    }

pub same_sign : (t : Bool) (x : String) → Same (sign t x) (sign_rest t x)
same_sign true x = same_lit x
same_sign false x = same_lit ""

pub same_piece : (p : Piece) → Same (piece_text p) (piece_rest p)
same_piece (point x) = same_number x
same_piece (before x) = same_then (same_lit "<") (same_number x)
same_piece (after x) = same_then (same_lit ">") (same_number x)
same_piece (range less x more y) =
    let first = same_then (same_then (same_sign less "<") (same_number x)) (same_lit "..") in
    same_assoc (same_assoc (same_assoc (same_then (same_then first (same_sign more ">")) (same_number y))))
same_piece (site x y) = same_assoc (same_then (same_then (same_number x) (same_lit "^")) (same_number y))

pub same_bracketed : {F : Form} {P : Rest} (x : String) → Same F P → Same (lit x · F · lit ")") (bracketed x P)
same_bracketed x f = same_assoc (same_then (same_then (same_lit x) f) (same_lit ")"))

pub same_complement : {F : Form} {P : Rest} (c : Bool) → Same F P → Same (complement c F) (complement_rest c P)
same_complement true f = same_bracketed "complement(" f
same_complement false f = f

pub same_member : (m : Member) → Same (member_text m) (member_rest m)
same_member m = same_complement m.complemented (same_piece m.piece)

pub same_fitting : (c : Bool) (m : Member) → Same (given (Fits c m) (member_text m)) (fitting_rest c m)
same_fitting c m = same_given (Fits c m) (λ h. same_member m)

pub same_members : (c : Bool) (m : Member) (l : List Member) → Same (members_text c (m ∷ l)) (list_rest (fitting_rest c) (m ∷ l))
same_members c m [] = same_fitting c m
same_members c m (n ∷ l) = same_assoc (same_then (same_then (same_fitting c m) (same_lit ",")) (same_members c n l))

-- a list of two or more is not empty
some_members : (c : Bool) (l : List Member) → 2 ≤ length l → Same (members_text c l) (list_rest (fitting_rest c) l)
some_members c [] h = absurd (omega arith)
some_members c (m ∷ l) h = same_members c m l

pub same_location : (t : Location) → Same (location_text t) (location_rest t)
same_location (one m) = same_member m
same_location (many c op l) = same_complement c (same_bracketed (operator_name op) (same_given (2 ≤ length l) (some_members c l)))

pub locates_rest : {t : Location} {w : List ℕ} → Locates t w → location_rest t w []
locates_rest {t} {w} x = (same_location t).leaves 0 (w, sym (append-nil w), x.is)

pub rest_locates : {t : Location} {w : List ℕ} → location_rest t w [] → Locates t w
rest_locates {t} {w} x =
    let p = (same_location t).before 0 x in
    record { is = rw (p.1, append-nil) p.2 }

-- ---- what is left is an end

abbrev pub Ends : List ℕ → List ℕ → Type 0
Ends w r = (u : List ℕ) × (w ≡ u ++ r)

pub same_ends : {F : Form} {P : Rest} {w r : List ℕ} → Same F P → P w r → Ends w r
same_ends f x = let p = f.before 0 x in (p.0, p.1)

pub ends_length : {w r : List ℕ} → Ends w r → length r ≤ length w
ends_length {w} {r} p = omega (arith, ap length p.1, length-append p.0 r)

-- ---- another form in the same place

pub bracketed_map : (x : String) {F G : Rest} → ((w r : List ℕ) → F w r → G w r) → (w r : List ℕ) → bracketed x F w r → bracketed x G w r
bracketed_map x h w r y = (y.0, y.1, (y.2.0, h y.0 y.2.0 y.2.1, y.2.2))

pub list_map : {F G : Member → Rest} → ((m : Member) (w r : List ℕ) → F m w r → G m w r)
    → (l : List Member) (w r : List ℕ) → list_rest F l w r → list_rest G l w r
list_map h [] w r x = x
list_map h (m ∷ []) w r x = h m w r x
list_map h (m ∷ n ∷ l) w r x = (x.0, h m w x.0 x.1, (x.2.0, x.2.1, list_map h (n ∷ l) x.2.0 r x.2.2))
