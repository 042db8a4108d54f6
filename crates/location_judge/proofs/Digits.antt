-- What `number` does at each byte.
use Prim.Native.Nat.{ℕ, ◌+◌, ◌-◌, ◌≤◌, ◌<◌}
use Prim.Native.Char.{code}
use native.Mathlib.Omega.{arith}
use mathlib.Core.Path.{◌≡◌, refl, sym, ap, ◌∙◌}
use mathlib.Core.Bool.{Bool, true, false, ◌&&◌}
use mathlib.Core.Option.{none, some}
use mathlib.Core.List.{List, [], ◌∷◌, ◌++◌}
use lib.ListN.{length, get_or, drop}
use lib.Dec.{leb}
use borrow.Author.Tests.{ne_eqb, leb-true, le-leb}
use Rattle.std.specs.Prelude.{None, Some}
use Rattle.paper.specs.Bytes.{spell, raw}
use Rattle.paper.proofs.Decimal.{push, digit_is}
use Rattle.paper.proofs.Locate.Model.{Got, more, num}
use Rattle.paper.proofs.Locate.Pieces.{NoDigit}
use Rattle.read_bytes.specs.Words.{There}
use Rattle.read_bytes.proofs.Words.{is_there_lem}
use Rattle.location_judge.specs.Places.{RestIs, Stretch}
use Rattle.location_judge.specs.Readings.{Reads, kept, Numbers}
use Rattle.location_judge.proofs.Stand.{at_end, suffix, begun, stretch_text, stretch_join, After}

-- b is one of lo to hi
abbrev Among : ℕ → ℕ → ℕ → Bool
Among lo hi b = leb lo b && leb b hi

outside : (lo hi b : ℕ) → (lo ≤ b → b ≤ hi → ⊥) → Among lo hi b ≡ false
outside lo hi b h = go (leb lo b) refl (leb b hi) refl
  where
    go : (p : Bool) → leb lo b ≡ p → (q : Bool) → leb b hi ≡ q → (p && q) ≡ false
    go false _ _ _ = refl
    go true _ false _ = refl
    go true e true f = absurd (h (leb-true lo b e) (leb-true b hi f))

pub plain_digit : (d : ℕ) → code "0" ≤ d → d ≤ code "9" → spell d ≡ d ∷ []
plain_digit d h k =
    rw (ne_eqb d 60 (omega arith), ne_eqb d 62 (omega arith), ne_eqb d 38 (omega arith), ne_eqb d 34 (omega arith), ne_eqb d 39 (omega arith))

module _ (s : List ℕ) (i d : ℕ) (h : i < length s) (e : d ≡ get_or s i 0) where
  -- a digit that is read is the byte
  same_byte : (c : ℕ) (z : List ℕ) → RestIs s i (c ∷ z) → code "0" ≤ c → c ≤ code "9" → c ≡ d
  same_byte c z st p q =
      let a : c ∷ raw z ≡ d ∷ drop (i + 1) s = ap (λ (l : List ℕ). l ++ raw z) (sym (plain_digit c p q)) ∙ sym st.is ∙ suffix s i d h e in
      ap (λ (l : List ℕ). get_or l 0 0) a

  module _ (p : code "0" ≤ d) (q : d ≤ code "9") where
    digit_raw : raw (d ∷ []) ≡ d ∷ []
    digit_raw = rw (plain_digit d p q)

    digit_has : There (raw (d ∷ [])) s i true
    digit_has = rw digit_raw (is_there_lem (record { inside = omega arith; here = suffix s i d h e }))

    digit_there : (w : List ℕ) → RestIs s i w → After s (d ∷ []) w (i + 1)
    digit_there w st = rw (ap length digit_raw) at (begun (d ∷ []) digit_has st refl)

    digit_stretch : Stretch s i (i + 1)
    digit_stretch = rw (ap length digit_raw) at (stretch_text (d ∷ []) digit_has refl)

  -- where the byte is none of lo to hi, none of them is read
  none_read : (lo hi : ℕ) → code "0" ≤ lo → hi ≤ code "9" → (lo ≤ d → d ≤ hi → ⊥) → (c : ℕ) (z : List ℕ) → RestIs s i (c ∷ z) → Among lo hi c ≡ false
  none_read lo hi p q n c z st = outside lo hi c (λ j k. let a = same_byte c z st (omega arith) (omega arith) in n (omega arith) (omega arith))

  pub no_number : (code "1" ≤ d → d ≤ code "9" → ⊥) → Numbers s i None
  no_number n = record { within = tt; says = says }
    where
      says : (w : List ℕ) → RestIs s i w → num w ≡ none
      says [] st = refl
      says (c ∷ z) st = rw (none_read (code "1") (code "9") (omega arith) (omega arith) n c z st)

  no_digit : (code "0" ≤ d → d ≤ code "9" → ⊥) → (w : List ℕ) → RestIs s i w → NoDigit w
  no_digit n [] st = tt
  no_digit n (c ∷ z) st = none_read (code "0") (code "9") (omega arith) (omega arith) n c z st

pub number_past : (s : List ℕ) (at : ℕ) → length s ≤ at → Numbers s at None
number_past s at h = record { within = tt; says = λ w st. ap num (at_end w st h) }

-- behind the digits so far, of which v is kept, more of them may stand at i
abbrev Going : List ℕ → List ℕ → ℕ → ℕ → Type 0
Going s w i v = (x : ℕ) × (z : List ℕ) × (num w ≡ some (more x z)) × RestIs s i z × (v ≡ kept x)

pub record Counted (s : List ℕ) (at i v : ℕ) : Type 0 where
  pub passed : Stretch s at i
  pub least : 1 ≤ v
  pub most : v ≤ 4294967296
  pub going : (w : List ℕ) → RestIs s at w → Going s w i v

more_stops : (x : ℕ) (z : List ℕ) → NoDigit z → more x z ≡ (x, z)
more_stops x [] n = refl
more_stops x (b ∷ z) n = rw n

module _ (s : List ℕ) (at : ℕ) where
  pub counted_first : (b : ℕ) → at < length s → b ≡ get_or s at 0 → code "1" ≤ b → b ≤ code "9" → Counted s at (at + 1) (b - code "0")
  counted_first b h e p q = record { passed = digit_stretch s at b h e (omega arith) q; least = omega arith; most = omega arith; going = going }
    where
      going : (w : List ℕ) → RestIs s at w → Going s w (at + 1) (b - code "0")
      going w st =
          let d = digit_there s at b h e (omega arith) q w st in
          let n : num (b ∷ d.0) ≡ some (more (push 0 b) d.0) = rw (le-leb 49 b p, le-leb 48 b (omega arith), le-leb b 57 q) in
          (push 0 b, d.0, ap num d.1 ∙ n, d.2, omega arith)

  pub counted_next : (i v d v' : ℕ) → Counted s at i v → i < length s → d ≡ get_or s i 0 → code "0" ≤ d → d ≤ code "9"
      → v' ≡ kept (push v d) → Counted s at (i + 1) v'
  counted_next i v d v' c h e p q k =
      let low = c.least in
      record { passed = stretch_join c.passed (digit_stretch s i d h e p q); least = omega arith; most = omega arith; going = going }
    where
      going : (w : List ℕ) → RestIs s at w → Going s w (i + 1) v'
      going w st =
          let g = c.going w st in
          let t = digit_there s i d h e p q g.1 g.3 in
          let m = g.4 in
          let n : more g.0 (d ∷ t.0) ≡ more (push g.0 d) t.0 = rw (digit_is d p q) in
          (push g.0 d, t.0, g.2 ∙ ap {B = Got ℕ} some (ap (more g.0) t.1 ∙ n), t.2, omega arith)

  counted_stops : (i v : ℕ) → Counted s at i v → ((w : List ℕ) → RestIs s i w → NoDigit w) → Numbers s at (Some (record { end = i; value = v }))
  counted_stops i v c n = record { within = (c.passed, c.least); says = says }
    where
      says : (w : List ℕ) → RestIs s at w → Reads s (λ (x : ℕ). v ≡ kept x) (num w) i
      says w st =
          let g = c.going w st in
          record { value = g.0; rest = g.1; is = g.2 ∙ ap {B = Got ℕ} some (more_stops g.0 g.1 (n g.1 g.3)); stands = g.3; holds = g.4 }

  pub counted_end : (v : ℕ) → Counted s at (length s) v → Numbers s at (Some (record { end = length s; value = v }))
  counted_end v c = counted_stops (length s) v c (λ w st. rw (at_end w st (omega arith)) tt)

  pub counted_byte : (i v d : ℕ) → Counted s at i v → i < length s → d ≡ get_or s i 0 → (code "0" ≤ d → d ≤ code "9" → ⊥) → Numbers s at (Some (record { end = i; value = v }))
  counted_byte i v d c h e n = counted_stops i v c (no_digit s i d h e n)
