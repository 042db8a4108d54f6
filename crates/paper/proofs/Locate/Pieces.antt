-- Numbers, segments and sites: the model reads exactly their texts.
use Prim.Native.Nat.{ℕ, ◌≤◌}
use Prim.Native.Char.{code}
use mathlib.Core.Path.{◌≡◌, refl, ap, ◌∙◌}
use mathlib.Core.Bool.{Bool, true, false, ◌&&◌, cond, and-eq-true_iff}
use mathlib.Core.Logic.{◌⊎◌, inl, inr}
use mathlib.Core.Option.{some}
use mathlib.Core.List.{List, [], ◌∷◌, ◌++◌}
use native.Mathlib.Omega.{arith}
use lib.Dec.{eqb, leb}
use borrow.Author.Tests.{ne_eqb, leb-true, le-leb}
use Rattle.paper.specs.Bytes.{all}
use Rattle.paper.specs.Values.{is_digit, value_from, Number}
use Rattle.paper.specs.Locations.{Piece, Piece.point, Piece.before, Piece.after, Piece.range, Piece.site}
use Rattle.paper.proofs.Decimal.{digit_bounds, digit_is, push}
use Rattle.paper.proofs.Locate.Rest.{Rest, lit_rest, ◌⨟◌, number_rest, sign_rest, piece_rest}
use Rattle.paper.proofs.Locate.Model.{then, is_first, more, num, lone, second, tail, plain, piece}
use Rattle.paper.proofs.Locate.Gives.{byte_is, Gives, gives_none, gives_some, gives_cond, gives_then}

-- ---- numbers

abbrev pub NoDigit : List ℕ → Type 0
NoDigit [] = Unit {0}
NoDigit (b ∷ r) = is_digit b ≡ false

-- digits at the start of w and what is left; behind v they have this value
abbrev Passes : ℕ → List ℕ → ℕ × List ℕ → Type 0
Passes v w p = (z : List ℕ) × (w ≡ z ++ p.1) × all is_digit z × (p.0 ≡ value_from v z)

more_sound : (v : ℕ) (w : List ℕ) → Passes v w (more v w)
more_sound v [] = ([], refl, tt, refl)
more_sound v (b ∷ w) = go (is_digit b) refl (more_sound (push v b) w)
  where
    go : (t : Bool) → is_digit b ≡ t → Passes (push v b) w (more (push v b) w) → Passes v (b ∷ w) (cond t (more (push v b) w) (v, b ∷ w))
    go true e h = (b ∷ h.0, ap (λ (l : List ℕ). b ∷ l) h.1, (e, h.2), h.3)
    go false e h = ([], refl, tt, refl)

more_complete : (v : ℕ) (z r : List ℕ) → all is_digit z → NoDigit r → more v (z ++ r) ≡ (value_from v z, r)
more_complete v [] [] a n = refl
more_complete v [] (b ∷ r) a n = rw n
more_complete v (b ∷ z) r a n = rw a.0 (more_complete (push v b) z r a.1 n)

first_bounds : (b : ℕ) → is_first b ≡ true → (code "1" ≤ b) × (b ≤ code "9")
first_bounds b e =
    let p = (and-eq-true_iff (leb (code "1") b) (leb b (code "9"))).0 e in
    (leb-true (code "1") b p.0, leb-true b (code "9") p.1)

pub num_sound : (w : List ℕ) → Gives (num w) (λ n. number_rest n w)
num_sound [] = gives_none
num_sound (b ∷ w) = gives_cond (is_first b) (λ e. gives_some (digits (first_bounds b e))) (λ _. gives_none)
  where
    digits : (code "1" ≤ b) × (b ≤ code "9") → number_rest (more 0 (b ∷ w)).0 (b ∷ w) (more 0 (b ∷ w)).1
    digits h =
        let d = digit_is b (omega arith) (omega arith) in
        let m = more_sound (push 0 b) w in
        rw d (b ∷ m.0, ap (λ (l : List ℕ). b ∷ l) m.1, record { digits = (d, m.2); leads = λ z. omega arith; counts = m.3 })

pub number_first : {n : ℕ} {w r : List ℕ} → number_rest n w r → (b : ℕ) × (v : List ℕ) × (w ≡ b ∷ v) × (code "1" ≤ b) × (b ≤ code "9")
number_first {n} {w} {r} x = go x.0 x.1 x.2
  where
    go : (u : List ℕ) → w ≡ u ++ r → Number n u → (b : ℕ) × (v : List ℕ) × (w ≡ b ∷ v) × (code "1" ≤ b) × (b ≤ code "9")
    go [] e y = absurd y.leads
    go (b ∷ z) e y = let h = digit_bounds b y.digits.0 in (b, z ++ r, e, omega (arith, y.leads), h.1)

pub num_complete : (n : ℕ) (w r : List ℕ) → number_rest n w r → NoDigit r → num w ≡ some (n, r)
num_complete n w r x d =
    let h = number_first x in
    let e : num w ≡ some (more 0 w) = rw (h.2, le-leb (code "1") h.0 h.3, le-leb h.0 (code "9") h.4) in
    rw (e, x.1, more_complete 0 x.0 r x.2.digits d, ← x.2.counts)

-- ---- segments and sites: what is read is written

-- the first number and the sign before it
abbrev First : Bool → ℕ → Rest
First less x = sign_rest less "<" ⨟ number_rest x

lone_sound : (less : Bool) (x : ℕ) (u w : List ℕ) → First less x u w → Gives (some (lone less x, w)) (λ p. piece_rest p u)
lone_sound true x u w s = gives_some s
lone_sound false x u w s = gives_some (rw s.1 s.2)

second_sound : (less : Bool) (x : ℕ) (u m w : List ℕ) → First less x u m → lit_rest ".." m w → Gives (second less x w) (λ p. piece_rest p u)
second_sound less x u m [] s e = gives_none
second_sound less x u m (a ∷ w) s e =
    gives_cond (eqb a (code ">")) (λ q. gives_then (num_sound w) (λ y r n. gives_some (ranges true (w, byte_is q, n))))
    (λ _. gives_then (num_sound (a ∷ w)) (λ y r n. gives_some (ranges false (a ∷ w, refl, n))))
  where
    ranges : (more : Bool) {y : ℕ} {r : List ℕ} → (sign_rest more ">" ⨟ number_rest y) (a ∷ w) r → piece_rest (range less x more y) u r
    ranges more t = (s.0, s.1, (m, s.2, (a ∷ w, e, t)))

tail_sound : (less : Bool) (x : ℕ) (u w : List ℕ) → First less x u w → Gives (tail less x w) (λ p. piece_rest p u)
tail_sound less x u [] s = lone_sound less x u [] s
tail_sound less x u (a ∷ []) s = lone_sound less x u (a ∷ []) s
tail_sound less x u (a ∷ b ∷ w) s = gives_cond (eqb a (code ".") && eqb b (code ".")) ranges (λ _. lone_sound less x u (a ∷ b ∷ w) s)
  where
    ranges : (eqb a (code ".") && eqb b (code ".")) ≡ true → Gives (second less x w) (λ p. piece_rest p u)
    ranges e =
        let t = (and-eq-true_iff (eqb a (code ".")) (eqb b (code "."))).0 e in
        second_sound less x u (a ∷ b ∷ w) w s (byte_is t.0 ∙ ap (λ (l : List ℕ). code "." ∷ l) (byte_is t.1))

plain_sound : (x : ℕ) (u w : List ℕ) → number_rest x u w → Gives (plain x w) (λ p. piece_rest p u)
plain_sound x u [] n = gives_some n
plain_sound x u (a ∷ w) n =
    gives_cond (eqb a (code "^")) (λ e. gives_then (num_sound w) (λ y r k. gives_some (a ∷ w, n, (w, byte_is e, k))))
    (λ _. tail_sound false x u (a ∷ w) (u, refl, n))

pub piece_sound : (w : List ℕ) → Gives (piece w) (λ p. piece_rest p w)
piece_sound [] = gives_none
piece_sound (b ∷ w) =
    gives_cond (eqb b (code ">")) (λ e. gives_then (num_sound w) (λ x r n. gives_some (w, byte_is e, n)))
    (λ _. gives_cond (eqb b (code "<")) (λ e. gives_then (num_sound w) (λ x r n. tail_sound true x (b ∷ w) r (w, byte_is e, n)))
    (λ _. gives_then (num_sound (b ∷ w)) (λ x r n. plain_sound x (b ∷ w) r n)))

-- ---- what is written is read

-- what may follow a location or a member: the end, `,` or `)`
abbrev pub Follow : List ℕ → Type 0
Follow [] = Unit {0}
Follow (b ∷ r) = (b ≡ code ",") ⊎ (b ≡ code ")")

follow_stops : (r : List ℕ) → Follow r → NoDigit r
follow_stops [] f = tt
follow_stops (b ∷ r) (inl e) = rw e
follow_stops (b ∷ r) (inr e) = rw e

tail_end : (less : Bool) (x : ℕ) (r : List ℕ) → Follow r → tail less x r ≡ some (lone less x, r)
tail_end less x [] f = refl
tail_end less x (a ∷ []) f = refl
tail_end less x (a ∷ b ∷ r) (inl e) = rw e
tail_end less x (a ∷ b ∷ r) (inr e) = rw e

plain_end : (x : ℕ) (r : List ℕ) → Follow r → plain x r ≡ some (point x, r)
plain_end x [] f = refl
plain_end x (a ∷ r) (inl e) = rw (ne_eqb a (code "^") (omega arith)) (tail_end false x (a ∷ r) (inl e))
plain_end x (a ∷ r) (inr e) = rw (ne_eqb a (code "^") (omega arith)) (tail_end false x (a ∷ r) (inr e))

-- a text that starts with a digit goes to `plain`
digit_piece : (x : ℕ) (w r : List ℕ) → number_rest x w r → NoDigit r → piece w ≡ plain x r
digit_piece x w r n d =
    let h = number_first n in
    let e : piece w ≡ then (num w) plain = rw (h.2, ne_eqb h.0 (code ">") (omega arith), ne_eqb h.0 (code "<") (omega arith)) in
    rw (e, num_complete x w r n d)

second_complete : (less : Bool) (x : ℕ) (more : Bool) (y : ℕ) (w r : List ℕ) → (sign_rest more ">" ⨟ number_rest y) w r → Follow r
    → second less x w ≡ some (range less x more y, r)
second_complete less x true y w r s f = rw (s.1, num_complete y s.0 r s.2 (follow_stops r f))
second_complete less x false y w r s f =
    let h = number_first s.2 in
    let e : second less x w ≡ then (num w) (λ y r. some (range less x false y, r)) = rw (s.1 ∙ h.2, ne_eqb h.0 (code ">") (omega arith)) in
    rw (e, s.1, num_complete y s.0 r s.2 (follow_stops r f))

pub piece_complete : (p : Piece) (w r : List ℕ) → piece_rest p w r → Follow r → piece w ≡ some (p, r)
piece_complete (point x) w r n f = rw (digit_piece x w r n (follow_stops r f)) (plain_end x r f)
piece_complete (before x) w r s f = rw (s.1, num_complete x s.0 r s.2 (follow_stops r f)) (tail_end true x r f)
piece_complete (after x) w r s f = rw (s.1, num_complete x s.0 r s.2 (follow_stops r f))
piece_complete (range true x more y) w r s f =
    let t = s.2 in
    let u = t.2 in
    rw (s.1, num_complete x s.0 t.0 t.1 (rw u.1), u.1) (second_complete true x more y u.0 r u.2 f)
piece_complete (range false x more y) w r s f =
    let t = s.2 in
    let u = t.2 in
    rw (s.1, digit_piece x s.0 t.0 t.1 (rw u.1), u.1) (second_complete false x more y u.0 r u.2 f)
piece_complete (site x y) w r s f =
    let u = s.2 in
    rw (digit_piece x w s.0 s.1 (rw u.1), u.1, num_complete y u.0 r u.2 (follow_stops r f))

-- a segment or site starts with a digit, `<` or `>`: no letter
abbrev pub Low : List ℕ → Type 0
Low w = (a : ℕ) × (v : List ℕ) × (w ≡ a ∷ v) × (a ≤ code ">")

low_number : {n : ℕ} {w r : List ℕ} → number_rest n w r → Low w
low_number x = let h = number_first x in (h.0, h.1, h.2, omega arith)

pub piece_low : (p : Piece) (w r : List ℕ) → piece_rest p w r → Low w
piece_low (point x) w r n = low_number n
piece_low (before x) w r s = (code "<", s.0, s.1, omega arith)
piece_low (after x) w r s = (code ">", s.0, s.1, omega arith)
piece_low (range true x more y) w r s = (code "<", s.0, s.1, omega arith)
piece_low (range false x more y) w r s = rw s.1 (low_number s.2.1)
piece_low (site x y) w r s = low_number s.1
