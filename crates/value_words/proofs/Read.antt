-- From a test on raw bytes to whichever text they are written from: the values that the rules take are written as they read.
use Prim.Native.Nat.{ℕ}
use mathlib.Core.Path.{◌≡◌, refl, sym, ap, ◌∙◌, subst}
use mathlib.Core.Bool.{Bool, true, false, true≢false}
use mathlib.Core.List.{List, [], ◌∷◌, ◌++◌, map}
use lib.ListN.{get_or}
use lib.Dec.{eqb}
use borrow.Author.Tests.{ne_eqb}
use Rattle.paper.specs.Bytes.{bytes, spell, raw, all}
use Rattle.paper.specs.Rules.{dna, rna, aa, kind_name, is_symbol}
use Rattle.paper.specs.Rules as Rules
use Rattle.paper.proofs.Texts.{raw_once, raw_append}
use Rattle.value_words.specs.Reading.{Tells, OfRead, Names}

-- a class has none of the five characters that are spelled
abbrev pub Plain : (ℕ → Bool) → Type 0
Plain f = map f (bytes "<>&\"'") ≡ false ∷ false ∷ false ∷ false ∷ false ∷ []

module _ (f : ℕ → Bool) (plain : Plain f) where
  spell_plain : (b : ℕ) → f b ≡ true → spell b ≡ b ∷ []
  spell_plain b h = rw (apart 60 (at 0), apart 62 (at 1), apart 38 (at 2), apart 34 (at 3), apart 39 (at 4))
    where
      at : (i : ℕ) → get_or (map f (bytes "<>&\"'")) i false ≡ get_or (false ∷ false ∷ false ∷ false ∷ false ∷ []) i false
      at i = ap (λ (l : List Bool). get_or l i false) plain

      apart : (c : ℕ) → f c ≡ false → eqb b c ≡ false
      apart c e = ne_eqb b c (λ q. true≢false (sym h ∙ ap f q ∙ e))

  -- bytes of such a class are written as they read
  pub raw_plain : (v : List ℕ) → all f v → raw v ≡ v
  raw_plain [] a = refl
  raw_plain (b ∷ v) a = λ i. spell_plain b a.0 i ++ raw_plain v a.1 i

-- two texts that are written as they read, one after the other
pub raw_both : (u z : List ℕ) → raw u ≡ u → raw z ≡ z → raw (u ++ z) ≡ u ++ z
raw_both u z p q = raw_append u z ∙ (λ i. p i ++ q i)

-- a test on the bytes is a test on the text, where each text that it accepts is written as it reads
pub tells_read : (K : List ℕ → Type 0) → ((v : List ℕ) → K v → raw v ≡ v) → {w : List ℕ} (r : Bool) → Tells r (K w) → OfRead w K r
tells_read K itself {w} true k = record { says = λ v e. subst K (raw_once w v (itself w k ∙ e)) k }
tells_read K itself {w} false n = record { says = λ v e k. n (subst K (sym (e ∙ itself v k)) k) }

-- the same for a word
pub tells_word : (x : List ℕ) → raw x ≡ x → {w : List ℕ} (r : Bool) → Tells r (w ≡ x) → OfRead w (λ (v : List ℕ). v ≡ x) r
tells_word x p r t = tells_read (λ (v : List ℕ). v ≡ x) (λ v e. ap raw e ∙ p ∙ sym e) r t

-- ---- the kinds

names : (k : Rules.Kind) {w : List ℕ} (r : Bool) → Tells r (w ≡ bytes (kind_name k)) → OfRead w (λ (v : List ℕ). Names v k) r
names k r t = tells_word (bytes (kind_name k)) (itself k) r t
  where
    itself : (k : Rules.Kind) → raw (bytes (kind_name k)) ≡ bytes (kind_name k)
    itself dna = refl
    itself rna = refl
    itself aa = refl

pub named : (k : Rules.Kind) {w : List ℕ} → w ≡ bytes (kind_name k) → (v : List ℕ) → w ≡ raw v → Names v k
named k e = (names k true e).says

pub unnamed : {w : List ℕ} → ¬ (w ≡ bytes "DNA") → ¬ (w ≡ bytes "RNA") → ¬ (w ≡ bytes "AA") → (v : List ℕ) → w ≡ raw v
    → (k : Rules.Kind) → ¬ Names v k
unnamed d r a v e dna = (names dna false d).says v e
unnamed d r a v e rna = (names rna false r).says v e
unnamed d r a v e aa = (names aa false a).says v e

-- ---- the symbols

symbol_plain : (k : Rules.Kind) → Plain (is_symbol k)
symbol_plain dna = refl
symbol_plain rna = refl
symbol_plain aa = refl

-- symbols are written as they read
pub raw_symbols : (k : Rules.Kind) (v : List ℕ) → all (is_symbol k) v → raw v ≡ v
raw_symbols k = raw_plain (is_symbol k) (symbol_plain k)
