-- Residues: the first byte that is no symbol is where the first residue is written that is none.
use Rattle.std.proofs.Common.{◌≡◌, ℕ, ◌+◌, ◌<◌, ◌≤◌, Bool, true, false, cond, ◌&&◌, eqb, List, ◌∷◌, ◌++◌, length, get_or, drop, sym, refl, ap, ◌∙◌, subst, true≢false, arith, length-append, get_or-append-add, eq-eqb, ne_eqb}
use native.Mathlib.Decide.{dec_le}
use lib.ListN.{get_or-append}
use lib.Seq.{drop-append_seam}
use Rattle.paper.specs.Bytes.{spell, raw, all, leading}
use Rattle.paper.specs.Rules.{dna, rna, aa, is_symbol}
use Rattle.paper.specs.Rules as Rules
use Rattle.paper.proofs.Tables.{Test, at_each, listed, each_same}
use Rattle.paper.proofs.Texts.{spell_cases, raw_append}
use Rattle.paper.proofs.Leading.{leading_in, leading_rest, Cut, whole, before, cut}
use Rattle.value_words.proofs.Read.{raw_symbols}
use Rattle.value_words.proofs.Tests.{all_at}
use Rattle.value_residues.specs.Residues.{symbol_class, SymbolTable, OfClass, Strange, Between, Reach, Foreign, Symbols}

-- ---- the table

pub symbols_right : (t : List ℕ) → Test (λ (x : ℕ). eqb x 1) (is_symbol dna) t 256 → Test (λ (x : ℕ). eqb x 2) (is_symbol aa) t 256 → SymbolTable t
symbols_right t low high = record { at_byte = at_byte }
  where
    at_byte : (k : Rules.Kind) (b : ℕ) → b < 256 → eqb (get_or t b 0) (symbol_class k) ≡ is_symbol k b
    at_byte dna b h = at_each (λ (x : ℕ). eqb x 1) (is_symbol dna) t 256 low b h
    at_byte rna b h = at_each (λ (x : ℕ). eqb x 1) (is_symbol dna) t 256 low b h
    at_byte aa b h = at_each (λ (x : ℕ). eqb x 2) (is_symbol aa) t 256 high b h

-- ---- tests of a byte

-- the symbols of a class
abbrev symbol_of : ℕ → ℕ → Bool
symbol_of class b = cond (eqb class 1) (is_symbol dna b) (is_symbol aa b)

of_symbol : (class b : ℕ) → symbol_of class b ≡ true → OfClass class b
of_symbol class b y dna e = subst (λ (c : ℕ). symbol_of c b ≡ true) e y
of_symbol class b y rna e = subst (λ (c : ℕ). symbol_of c b ≡ true) e y
of_symbol class b y aa e = subst (λ (c : ℕ). symbol_of c b ≡ true) e y

-- a byte that the test f passes; and one of them that is a symbol
abbrev taken : (ℕ → ℕ) → ℕ → Bool
taken f b = eqb (f b) 0

abbrev rightly : ℕ → (ℕ → ℕ) → ℕ → Bool
rightly class f b = taken f b && symbol_of class b

-- all that a test passes are symbols of the class, by one equation over all bytes that antt computes
pub passes_symbols : (class : ℕ) {f : ℕ → ℕ} {b n : ℕ} → b < 256 → ((x : ℕ) → b ≡ x → n ≡ f x)
    → listed (rightly class f) 0 256 ≡ listed (taken f) 0 256 → Strange b class n
passes_symbols class {f} {b} h is same =
    record {
      none = λ z.
          let t = eq-eqb (f b) 0 (sym (is b refl) ∙ z) in
          of_symbol class b (ap (λ (x : Bool). x && symbol_of class b) (sym t) ∙ each_same (rightly class f) (taken f) 256 same b h ∙ t);
    }

-- ---- the walk

-- a character whose first byte is a symbol is that symbol
of_first : (k : Rules.Kind) (b : ℕ) (r : List ℕ) → is_symbol k (get_or (spell b ++ r) 0 0) ≡ true → is_symbol k b ≡ true
of_first k b r =
    spell_cases (λ (c : ℕ) (w : List ℕ). is_symbol k (get_or (w ++ r) 0 0) ≡ true → is_symbol k c ≡ true) (no_amp k) (no_amp k) (no_amp k) (no_amp k) (no_amp k)
    (λ c e f g h j s. s) b
  where
    no_amp : (k : Rules.Kind) {A : Type 0} → is_symbol k 38 ≡ true → A
    no_amp dna s = absurd (true≢false (sym s))
    no_amp rna s = absurd (true≢false (sym s))
    no_amp aa s = absurd (true≢false (sym s))

-- the residues of v before the first that is no symbol, and what stands behind them
module _ (k : Rules.Kind) (v : List ℕ) where
  abbrev front : List ℕ
  front = leading (is_symbol k) v

  raw_front : raw front ≡ front
  raw_front = raw_symbols k front (leading_in (is_symbol k) v)

  raw_split : (x : List ℕ) → v ≡ front ++ x → raw v ≡ raw front ++ raw x
  raw_split x q = ap raw q ∙ raw_append front x

  -- a byte of theirs is a symbol
  in_front : (i : ℕ) → i < length (raw front) → is_symbol k (get_or (raw v) i 0) ≡ true
  in_front i l =
      let x = leading_rest (is_symbol k) v in
      ap (λ (z : List ℕ). is_symbol k (get_or z i 0)) (raw_split x.0 x.1) ∙ ap (is_symbol k) (get_or-append (raw front) (raw x.0) 0 i l)
      ∙ all_at (is_symbol k) (raw front) i l (subst (all (is_symbol k)) (sym raw_front) (leading_in (is_symbol k) v))

  -- r bytes are symbols and the next isn't: they are those of the front
  pub stops_there : (r : ℕ) → r ≤ length (raw v) → ((i : ℕ) → i < r → is_symbol k (get_or (raw v) i 0) ≡ true)
      → (r < length (raw v) → is_symbol k (get_or (raw v) r 0) ≡ false) → r ≡ length (raw front)
  stops_there r p each there = by (cut (is_symbol k) v)
    where
      not_less : Dec (length (raw front) ≤ r) → length (raw front) ≤ r
      not_less (yes h) = h
      not_less (no h) =
          let x = leading_rest (is_symbol k) v in
          let long = ap length (raw_split x.0 x.1) in
          absurd (true≢false (sym (in_front r (omega (arith, h))) ∙ there (omega (arith, h, long, length-append (raw front) (raw x.0)))))

      not_more : (b : ℕ) (x : List ℕ) → v ≡ front ++ (b ∷ x) → is_symbol k b ≡ false → Dec (r ≤ length (raw front)) → r ≤ length (raw front)
      not_more b x q o (yes h) = h
      not_more b x q o (no h) =
          let here = ap (λ (z : List ℕ). get_or z (length (raw front) + 0) 0) (raw_split (b ∷ x) q) ∙ get_or-append-add (raw front) (raw (b ∷ x)) 0 0 in
          absurd (true≢false (sym (of_first k b (raw x) (sym (ap (is_symbol k) here) ∙ each (length (raw front) + 0) (omega (arith, h)))) ∙ o))

      by : Cut (is_symbol k) v → r ≡ length (raw front)
      by (whole a q) = omega (arith, p, not_less (dec_le (length (raw front)) r), ap (λ (z : List ℕ). length (raw z)) q)
      by (before b x q o) = omega (arith, not_less (dec_le (length (raw front)) r), not_more b x q o (dec_le r (length (raw front))))

  -- so many bytes are as many residues, and behind them the others are written
  pub cut_there : {w : List ℕ} {r : ℕ} → w ≡ raw v → r ≡ length (raw front) → (x : List ℕ) × (drop r w ≡ raw x) × (length v ≡ r + length x)
  cut_there {w} {r} z n =
      let x = leading_rest (is_symbol k) v in (
        x.0,
        (λ i. drop (n i) ((z ∙ raw_split x.0 x.1) i)) ∙ drop-append_seam (raw front) (raw x.0),
        omega (arith, n, ap length raw_front, ap length x.1, length-append front x.0),
      )

module _ (w : List ℕ) (class : ℕ) where
  between_none : (i : ℕ) → Between w class i i
  between_none i j h l = absurd (omega arith)

  pub between_more : (i j : ℕ) → Between w class i j → OfClass class (get_or w j 0) → Between w class i (j + 1)
  between_more i j b o m h l = cases (dec_le j m)
    where
      cases : Dec (j ≤ m) → OfClass class (get_or w m 0)
      cases (yes q) = subst (λ (n : ℕ). OfClass class (get_or w n 0)) (omega arith) o
      cases (no q) = b m h (omega arith)

  between_join : (i j n : ℕ) → Between w class i j → Between w class j n → Between w class i n
  between_join i j n a b m h l = cases (dec_le j m)
    where
      cases : Dec (j ≤ m) → OfClass class (get_or w m 0)
      cases (yes q) = b m q l
      cases (no q) = a m h (omega arith)

  module _ (i : ℕ) (t : List ℕ) (table : SymbolTable t) (small : get_or w i 0 < 256) where
    -- what the table says of the byte at i
    told : (k : Rules.Kind) → class ≡ symbol_class k → eqb (get_or t (get_or w i 0) 0) class ≡ is_symbol k (get_or w i 0)
    told k e = ap (eqb (get_or t (get_or w i 0) 0)) e ∙ table.at_byte k (get_or w i 0) small

    pub of_none : ¬ (get_or t (get_or w i 0) 0 ≡ class) → (k : Rules.Kind) → class ≡ symbol_class k → is_symbol k (get_or w i 0) ≡ false
    of_none n k q = sym (told k q) ∙ ne_eqb (get_or t (get_or w i 0) 0) class n

    pub foreign_here : {from : ℕ} → Reach w class from i → ¬ (get_or t (get_or w i 0) 0 ≡ class) → Foreign w class from i
    foreign_here r n = record { reach = r; there = λ h. of_none n }

  pub reach_none : (i : ℕ) → i ≤ length w → Reach w class i i
  reach_none i h = record { onward = omega arith; inside = h; each = between_none i }

  pub reach_on : {i j n : ℕ} → Reach w class i j → j ≤ n → n ≤ length w → Between w class j n → Reach w class i n
  reach_on {i} {j} {n} a h l b = record { onward = omega (arith, a.onward, h); inside = l; each = between_join i j n a.each b }

  pub reach_join : {i j n : ℕ} → Reach w class i j → Reach w class j n → Reach w class i n
  reach_join a b = reach_on a b.onward b.inside b.each

  -- what was passed from the front on, and where the search then stopped
  pub first_foreign : {i r : ℕ} → Reach w class 0 i → Foreign w class i r → Symbols w class r
  first_foreign {i} {r} a f =
      let front = reach_join a f.reach in
      record {
        within = front.inside;
        says =
            λ k e v z.
            stops_there k v r (omega (arith, front.inside, ap length z))
            (λ j l. ap (λ (u : List ℕ). is_symbol k (get_or u j 0)) (sym z) ∙ front.each j (omega arith) l k e)
            (λ l. ap (λ (u : List ℕ). is_symbol k (get_or u r 0)) (sym z) ∙ f.there (omega (arith, l, ap length z)) k e);
      }
