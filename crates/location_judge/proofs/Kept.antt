-- What is kept of a segment or site, at each way that `pair`, `tail` and `piece` end.
use Prim.Native.Nat.{ℕ, ◌+◌, ◌≤◌}
use native.Mathlib.Omega.{arith}
use mathlib.Core.Path.{◌≡◌, refl, sym, ap, ◌∙◌, subst}
use mathlib.Core.Bool.{Bool, true, false}
use mathlib.Core.Option.{some}
use mathlib.Core.List.{List, ◌++◌}
use lib.ListN.{length}
use Rattle.std.specs.Prelude.{Option, None, Some}
use Rattle.std.specs.Int.{from_bool}
use Rattle.paper.specs.Bytes.{bytes, raw}
use Rattle.paper.specs.Locations.{mark, after, range, site}
use Rattle.paper.specs.Locations as paper
use Rattle.paper.proofs.Locate.Model.{Got, then, num, lone, second, tail, plain, piece}
use Rattle.read_bytes.specs.Words.{There}
use Rattle.location_judge.specs.Places.{RestIs, Stretch}
use Rattle.location_judge.specs.Readings.{Reads, kept, Numbers, Keeps, piece_within, PieceSays, Pairs, Tails, Pieces}
use Rattle.location_judge.specs.declared.pieces.FoundNumber.{FoundNumber}
use Rattle.location_judge.specs.declared.pieces.FoundPiece.{FoundPiece}
use Rattle.location_judge.proofs.Stand.{Lacks, begun, not_begun, stretch_text, stretch_none, stretch_join}
use Rattle.location_judge.proofs.Shapes.{tail_else, second_else, plain_else, piece_else}

-- the same reading of a model that reads the same
reads_by : {A : Type 0} {P : A → Type 0} {s : List ℕ} {n : ℕ} {g k : Got A} → g ≡ k → Reads s P k n → Reads s P g n
reads_by {A} {P} {s} {n} e = subst (λ (x : Got A). Reads s P x n) (sym e)

says_by : (s : List ℕ) (c : Bool) {g k : Got paper.Piece} (r : Option FoundPiece) → g ≡ k → PieceSays s c k r → PieceSays s c g r
says_by s c r e = subst (λ (x : Got paper.Piece). PieceSays s c x r) (sym e)

within_from : {s : List ℕ} {i j : ℕ} → Stretch s i j → (r : Option FoundPiece) → piece_within s j r → piece_within s i r
within_from h None p = tt
within_from h (Some x) p = (stretch_join h p.0, p.1, p.2)

-- ---- the second number

module _ {s : List ℕ} {at x marks : ℕ} {odd : Bool} where
  pub pair_no : Numbers s at None → Pairs s at x marks odd None
  pair_no h = record { within = tt; says = λ c f k w st. rw (h.says w st) }

  pub pair_at : {y : FoundNumber} → 1 ≤ x → Numbers s at (Some y)
      → Pairs s at x marks odd (Some (record { end = y.end; reach = record { first = x; last = y.value; marks = marks }; odd = odd }))
  pair_at {y} low h =
      record {
        within = (h.within.0, low, h.within.1);
        says = λ c f k w st.
            let m = h.says w st in
            let q = k m.value in
            let keeps : Keeps c (f m.value) (record { first = x; last = y.value; marks = marks }) odd
            = record { first = q.first; last = m.holds ∙ q.last; marks = q.marks; odds = q.odds } in
            reads_by (ap (λ (z : Got ℕ). then z (λ y z. some (f y, z))) m.is)
            (record { value = f m.value; rest = m.rest; is = refl; stands = m.stands; holds = keeps });
      }

-- ---- behind the first number

keeps_lone : (c less : Bool) {x : ℕ} (X marks : ℕ) → x ≡ kept X → marks ≡ mark c 1 + mark less 2
    → Keeps c (lone less X) (record { first = x; last = x; marks = marks }) less
keeps_lone c true X marks k m = record { first = k; last = k; marks = m; odds = refl }
keeps_lone c false X marks k m = record { first = k; last = k; marks = m; odds = refl }

module _ {s : List ℕ} {at x marks : ℕ} {less : Bool} where
  pub tail_lone : 1 ≤ x → at ≤ length s → ((w : List ℕ) → RestIs s at w → Lacks (bytes "..") w)
      → Tails s at x marks less (Some (record { end = at; reach = record { first = x; last = x; marks = marks }; odd = less }))
  tail_lone low inside h =
      record {
        within = (stretch_none inside, low, low);
        says = λ c X k m w st.
            record { value = lone less X; rest = w; is = tail_else less X w (h w st); stands = st; holds = keeps_lone c less X marks k m };
      }

  -- `..`, a sign or none, and the second number, at j
  tail_range : {j : ℕ} (more : Bool) → Stretch s at j
      → ((w : List ℕ) → RestIs s at w → (z : List ℕ) × RestIs s j z × ((X : ℕ) → tail less X w ≡ then (num z) (λ y r. some (range less X more y, r))))
      → (r : Option FoundPiece) → Pairs s j x (marks + mark more 4) false r → Tails s at x marks less r
  tail_range more l h r p =
      record {
        within = within_from l r p.within;
        says = λ c X k m w st.
            let z = h w st in
            says_by s c r (z.2 X)
            (p.says c (range less X more) (λ y. record { first = k; last = refl; marks = omega arith; odds = refl }) z.0 z.1);
      }

  module _ {t u : Bool} (dots : There (raw (bytes "..")) s at t) (a : t ≡ true) (sign : There (raw (bytes ">")) s (at + 2) u) where
    pub tail_high : u ≡ true → (r : Option FoundPiece) → Pairs s (at + 2 + 4) x (marks + 4) false r → Tails s at x marks less r
    tail_high b =
        tail_range true (stretch_join (stretch_text (bytes "..") dots a) (stretch_text (bytes ">") sign b))
        (λ w st.
        let p = begun (bytes "..") dots st a in
        let q = begun (bytes ">") sign p.2 b in
        (q.0, q.2, λ X. ap (tail less X) p.1 ∙ ap (second less X) q.1))

    pub tail_low : u ≡ false → (r : Option FoundPiece) → Pairs s (at + 2) x marks false r → Tails s at x marks less r
    tail_low b r p =
        tail_range false (stretch_text (bytes "..") dots a)
        (λ w st.
        let q = begun (bytes "..") dots st a in
        (q.0, q.2, λ X. ap (tail less X) q.1 ∙ second_else less X q.0 (not_begun (bytes ">") sign q.2 b)))
        r (subst (λ (m : ℕ). Pairs s (at + 2) x m false r) (omega arith) p)

-- ---- the whole

-- "Marks add 1 complement"
pub one_mark : {n : ℕ} (c : Bool) → n ≡ from_bool c → n ≡ mark c 1
one_mark true e = e
one_mark false e = e

-- a segment or site at `at` is what k makes of the number at j
pub record Way (s : List ℕ) (at j : ℕ) (k : ℕ → List ℕ → Got paper.Piece) : Type 0 where
  pub passes : (n : ℕ) → Stretch s j n → Stretch s at n
  pub goes : (w : List ℕ) → RestIs s at w → (z : List ℕ) × RestIs s j z × (piece w ≡ then (num z) k)

-- a sign, and the number behind it
way_sign : {s : List ℕ} {at : ℕ} {t : Bool} {k : ℕ → List ℕ → Got paper.Piece} (u : List ℕ) → There (raw u) s at t → t ≡ true
    → ((z : List ℕ) → piece (u ++ z) ≡ then (num z) k) → Way s at (at + length (raw u)) k
way_sign u sign e h =
    record {
      passes = λ n. stretch_join (stretch_text u sign e);
      goes = λ w st. let p = begun u sign st e in (p.0, p.2, ap piece p.1 ∙ h p.0);
    }

module _ {s : List ℕ} {at : ℕ} {t : Bool} (high : There (raw (bytes ">")) s at t) where
  pub way_after : t ≡ true → Way s at (at + 4) (λ x r. some (after x, r))
  way_after e = way_sign (bytes ">") high e (λ z. refl)

  module _ (e : t ≡ false) {u : Bool} (low : There (raw (bytes "<")) s at u) where
    pub way_before : u ≡ true → Way s at (at + 4) (tail true)
    way_before f = way_sign (bytes "<") low f (λ z. refl)

    pub way_digit : u ≡ false → Way s at at plain
    way_digit f =
        record { passes = λ n x. x; goes = λ w st. (w, st, piece_else w (not_begun (bytes ">") high st e) (not_begun (bytes "<") low st f)) }

module _ {s : List ℕ} {at j : ℕ} {k : ℕ → List ℕ → Got paper.Piece} (way : Way s at j k) (c : Bool) where
  pub piece_no : Numbers s j None → Pieces s at c None
  piece_no h =
      record {
        within = tt;
        says = λ w st. let p = way.goes w st in p.2 ∙ ap (λ (g : Got ℕ). then g k) (h.says p.0 p.1);
      }

  pub piece_by : {x : FoundNumber} (r : Option FoundPiece) → Numbers s j (Some x) → piece_within s x.end r
      → ((X : ℕ) → x.value ≡ kept X → (w : List ℕ) → RestIs s x.end w → PieceSays s c (k X w) r) → Pieces s at c r
  piece_by {x} r h i f =
      record {
        within = within_from (way.passes x.end h.within.0) r i;
        says = λ w st.
            let p = way.goes w st in
            let m = h.says p.0 p.1 in
            says_by s c r (p.2 ∙ ap (λ (g : Got ℕ). then g k) m.is) (f m.value m.holds m.rest m.stands);
      }

-- `>` and the number x
abbrev pub high_piece : FoundNumber → ℕ → Option FoundPiece
high_piece x base = Some (record { end = x.end; reach = record { first = x.value; last = x.value; marks = base + 4 }; odd = true })

module _ {s : List ℕ} {at j base : ℕ} {c : Bool} {x : FoundNumber} (b : base ≡ mark c 1) (h : Numbers s j (Some x)) where
  pub piece_after : Way s at j (λ x r. some (after x, r)) → Pieces s at c (high_piece x base)
  piece_after way =
      let low = h.within.1 in
      piece_by way c (high_piece x base) h (stretch_none h.within.0.inside, low, low)
      (λ X e w st.
      record { value = after X; rest = w; is = refl; stands = st; holds = record { first = e; last = e; marks = omega arith; odds = refl } })

  pub piece_before : Way s at j (tail true) → (r : Option FoundPiece) → Tails s x.end x.value (base + 2) true r → Pieces s at c r
  piece_before way r p = piece_by way c r h p.within (λ X e. p.says c X e (omega arith))

  module _ (way : Way s at j plain) {t : Bool} (caret : There (raw (bytes "^")) s x.end t) where
    pub piece_site : t ≡ true → (r : Option FoundPiece) → Pairs s (x.end + 1) x.value (base + 8) true r → Pieces s at c r
    piece_site e r p =
        piece_by way c r h (within_from (stretch_text (bytes "^") caret e) r p.within)
        (λ X k w st.
        let q = begun (bytes "^") caret st e in
        says_by s c r (ap (plain X) q.1)
        (p.says c (site X) (λ y. record { first = k; last = refl; marks = omega arith; odds = refl }) q.0 q.2))

    pub piece_tail : t ≡ false → (r : Option FoundPiece) → Tails s x.end x.value base false r → Pieces s at c r
    piece_tail e r p =
        piece_by way c r h p.within
        (λ X k w st. says_by s c r (plain_else X w (not_begun (bytes "^") caret st e)) (p.says c X k (omega arith) w st))
