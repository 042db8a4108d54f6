-- The bytes of a location, one after another: they tell, unread, whether it leaves its region unjudged.
use Prim.Native.Nat.{ℕ, ◌+◌, ◌≤◌, ◌<◌}
use Prim.Native.Char.{code}
use Prim.Native.String.{String}
use native.Mathlib.Omega.{arith}
use mathlib.Core.Path.{◌≡◌, refl, sym, ap, ◌∙◌, subst}
use mathlib.Core.Bool.{Bool, true, false, ◌&&◌, ◌||◌, not, cond, or-false, or_assoc}
use mathlib.Core.Logic.{◌⊎◌, inl, inr}
use mathlib.Core.List.{List, [], ◌∷◌, ◌++◌, append-nil, append_assoc}
use lib.ListN.{length, get_or, drop, drop_of_length-le}
use lib.Dec.{eqb}
use borrow.Author.Tests.{ne_eqb}
use Rattle.paper.specs.Bytes.{bytes, raw, all, among}
use Rattle.paper.specs.Form.{Form, lit, ◌·◌, given}
use Rattle.paper.specs.Values.{is_digit}
use Rattle.paper.specs.Locations.{Piece, point, before, after, range, site, Member, join, order, Location, one, many, any, is_odd, leaves_unjudged}
use Rattle.paper.specs.Locations.{number, sign, piece_text, complement, member_text, members_text, location_text}
use Rattle.paper.proofs.Texts.{raw_append}
use Rattle.paper.proofs.Decimal.{digit_bounds}
use Rattle.location_judge.specs.Judging.{LeavesRegion}
use Rattle.location_judge.proofs.Stand.{suffix}
use Rattle.location_judge.proofs.Digits.{plain_digit}

-- the scan's answer of the bytes that are left, where `&` and `.` have stood since the last comma, or not
abbrev Answer : Type 0
Answer = (signed ranged : Bool) → Bool

abbrev is_lone : Answer
is_lone signed ranged = not ranged && signed

-- at a comma, if what follows it answers r
abbrev ended : Bool → Answer
ended r a d = is_lone a d || r

abbrev scan : List ℕ → Answer
scan [] = ended false
scan (b ∷ s) =
    λ a d.
    cond (among (bytes "d^") b) true
    (cond (eqb b (code ",")) (ended (scan s false false) a d) (scan s (eqb b (code "&") || a) (eqb b (code ".") || d)))

-- ---- forms

-- e makes the answer before a text of the form F from the answer behind it
record Makes (F : Form) (e : Answer → Answer) : Type 0 where
  is : (at : ℕ) (w : List ℕ) → F at w → (z : List ℕ) → scan (raw w ++ z) ≡ e (scan z)

infixl 60 ◌⊗◌
◌⊗◌ : {F G : Form} {e g : Answer → Answer} → Makes F e → Makes G g → Makes (F · G) (λ k. e (g k))
◌⊗◌ {e = e} h k =
    record {
      is = λ at w (u, v, q, x, y) z.
          rw (q, raw_append u v, append_assoc (raw u) (raw v) z) (h.is at u x (raw v ++ z) ∙ ap e (k.is (at + length u) v y z));
    }

word : (x : String) (e : Answer → Answer) → ((z : List ℕ) → scan (raw (bytes x) ++ z) ≡ e (scan z)) → Makes (lit x) e
word x e h = record { is = λ at w q z. rw q (h z) }

-- a word that changes nothing
mute : (x : String) → ((z : List ℕ) → scan (raw (bytes x) ++ z) ≡ scan z) → Makes (lit x) (λ k. k)
mute x = word x (λ k. k)

close : Makes (lit ")") (λ k. k)
close = mute ")" (λ z. refl)

-- a digit is written as itself, and is none of d ^ , & .
digits : (n : ℕ) → Makes (number n) (λ k. k)
digits n = record { is = λ at w x z i a d. go w x.digits z a d i }
  where
    go : (w : List ℕ) → all is_digit w → (z : List ℕ) (a d : Bool) → scan (raw w ++ z) a d ≡ scan z a d
    go [] h z a d = refl
    go (b ∷ w) h z a d =
        let (p, q) = digit_bounds b h.0 in
        let no = ne_eqb b in
        rw (plain_digit b p q, no 100 (omega arith), no 94 (omega arith), no 44 (omega arith), no 38 (omega arith), no 46 (omega arith)) (go w h.1 z a d)

-- `<` or `>`, if it is written
abbrev signed : Bool → Answer → Answer
signed b k a d = k (b || a) d

less : (b : Bool) → Makes (sign b "<") (signed b)
less true = word "<" (signed true) (λ z. refl)
less false = mute "" (λ z. refl)

more : (b : Bool) → Makes (sign b ">") (signed b)
more true = word ">" (signed true) (λ z. refl)
more false = mute "" (λ z. refl)

-- ---- locations

-- behind a comma, or first, a text of the form F tells b, before a comma or at the end
record Decides (F : Form) (b : Bool) : Type 0 where
  e : Answer → Answer
  makes : Makes F e
  ends : (r : Bool) → e (ended r) false false ≡ (b || r)

decides : {F : Form} {b : Bool} {e : Answer → Answer} → Makes F e → ((r : Bool) → e (ended r) false false ≡ (b || r)) → Decides F b
decides {e = e} m h = record { e = e; makes = m; ends = h }

where_so : {A : Type 0} {F : Form} {b : Bool} → Decides F b → Decides (given A F) b
where_so h = record { e = h.e; makes = record { is = λ at w x. h.makes.is at w x.1 }; ends = h.ends }

decides_piece : (p : Piece) → Decides (piece_text p) (is_odd p)
decides_piece (point x) = decides (digits x) (λ r. refl)
decides_piece (before x) = decides (less true ⊗ digits x) (λ r. refl)
decides_piece (after x) = decides (more true ⊗ digits x) (λ r. refl)
decides_piece (range l x m y) = decides (less l ⊗ digits x ⊗ word ".." (λ k a d. k a true) (λ z. refl) ⊗ more m ⊗ digits y) (λ r. refl)
decides_piece (site x y) = decides (digits x ⊗ word "^" (λ k a d. true) (λ z. refl) ⊗ digits y) (λ r. refl)

decides_complement : (c : Bool) {F : Form} {b : Bool} → Decides F b → Decides (complement c F) b
decides_complement true h = decides (mute "complement(" (λ z. refl) ⊗ h.makes ⊗ close) h.ends
decides_complement false h = h

decides_member : (m : Member) → Decides (member_text m) (is_odd m.piece)
decides_member m = decides_complement m.complemented (decides_piece m.piece)

alone : {F : Form} {b : Bool} → Decides F b → Decides F (b || false)
alone {F} {b} h = subst (Decides F) (sym (or-false b)) h

abbrev any_odd : List Member → Bool
any_odd = any (λ (m : Member). is_odd m.piece)

decides_members : (c : Bool) (l : List Member) → Decides (members_text c l) (any_odd l)
decides_members c [] = decides (mute "" (λ z. refl)) (λ r. refl)
decides_members c (m ∷ []) = alone (where_so (decides_member m))
decides_members c (m ∷ n ∷ l) =
    let h = where_so (decides_member m) in
    let k = decides_members c (n ∷ l) in
    let b = is_odd m.piece in
    decides (h.makes ⊗ word "," (λ k. ended (k false false)) (λ z. refl) ⊗ k.makes)
    (λ r. h.ends (k.e (ended r) false false) ∙ ap (λ (x : Bool). b || x) (k.ends r) ∙ sym (or_assoc b (any_odd (n ∷ l)) r))

decides_location : (t : Location) → Decides (location_text t) (leaves_unjudged t)
decides_location (one m) = alone (decides_member m)
decides_location (many c join l) =
    let h = where_so (decides_members c l) in
    decides_complement c (decides (mute "join(" (λ z. refl) ⊗ h.makes ⊗ close) h.ends)
decides_location (many c order l) =
    let h = where_so (decides_members c l) in
    decides_complement c (decides (word "order(" (λ k a d. true) (λ z. refl) ⊗ h.makes ⊗ close) (λ r. refl))

pub decided : {s : List ℕ} {r : Bool} → r ≡ scan s false false → LeavesRegion s r
decided {s} e =
    record {
      says = λ t x.
          let h = decides_location t in
          let q : scan s ≡ h.e (ended false) = rw x.written (rw append-nil at (h.makes.is 0 x.text x.located.is [])) in
          e ∙ (λ i. q i false false) ∙ h.ends false ∙ or-false (leaves_unjudged t);
    }

-- ---- the bytes one after another

-- the bytes before i have told nothing but whether `&` and `.` stand behind the last comma
pub record Scanned (s : List ℕ) (i : ℕ) (signed ranged : Bool) : Type 0 where
  pub left : scan (drop i s) signed ranged ≡ scan s false false

module _ {s : List ℕ} {i : ℕ} {a d : Bool} (p : Scanned s i a d) where
  pub scanned_all : length s ≤ i → {r : Bool} → r ≡ is_lone a d → LeavesRegion s r
  scanned_all h e = decided (e ∙ sym (or-false (is_lone a d)) ∙ rw (drop_of_length-le s h) at p.left)

  module _ (h : i < length s) where
    pub here : (b : ℕ) → get_or s i 0 ≡ b → scan (b ∷ drop (i + 1) s) a d ≡ scan s false false
    here b e = rw (suffix s i b h (sym e)) at p.left

    -- where a site stands
    pub site_stands : get_or s i 0 ≡ code "^" → LeavesRegion s true
    site_stands e = decided (here (code "^") e)

    -- where an order or a site stands
    pub either_stands : let b = get_or s i 0 in (b ≡ code "d") ⊎ ((b ≡ code "d" → ⊥) × (b ≡ code "^")) → LeavesRegion s true
    either_stands (inl e) = decided (here (code "d") e)
    either_stands (inr e) = site_stands e.1
