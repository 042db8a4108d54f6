-- What is promised of residues: how many they are, which is the first that is no symbol of a kind, and how many are defined.
use Rattle.std.specs.Prelude.{◌≡◌, ℕ, ◌+◌, ◌<◌, ◌≤◌, Bool, true, false, not, ◌||◌, List, [], ◌∷◌, length, drop, ◌==◌, nat_lt, slice_index}
use Prim.Native.Char.{code}
use Rattle.paper.specs.Bytes.{spell, raw, leading}
use Rattle.paper.specs.Lists.{Count}
use Rattle.paper.specs.Rules.{dna, rna, aa, is_symbol}
use Rattle.paper.specs.Rules as Rules
use Rattle.read_bytes.specs.Numbers.{flag}
use Rattle.value_words.specs.Reading.{Tells}
use Rattle.value_residues.specs.declared.Passed.{Passed}

-- ---- characters

-- how many characters begin with another byte than `but` in what is written in w; an entity that has begun before it ends with `;`
abbrev pub begun : ℕ → Bool → List ℕ → ℕ
begun but inside [] = 0
begun but true (b ∷ w) = begun but (not (b == (code ";"))) w
begun but false (b ∷ w) = flag (not (b == but)) + begun but (b == (code "&")) w

-- what begins behind the character at `at` begins from r on
pub record NextCharacter (w : List ℕ) (at r : ℕ) : Type 0 where
  pub onward : at < r
  pub within : r ≤ length w
  pub same : (but : ℕ) → begun but (slice_index w at == (code "&")) (drop (at + 1) w) ≡ begun but false (drop r w)

-- 64 bytes, r of which are b, and no entity begins among them; above 64 nothing is said
pub record SameOf64 (w : List ℕ) (at b r : ℕ) : Type 0 where
  pub is : r ≤ 64 → begun b false (drop at w) + r ≡ 64 + begun b false (drop (at + 64) w)

-- from a character on so many begin with another byte than `but`, and then it goes on at `next`
pub record Passes (w : List ℕ) (at but : ℕ) (r : Passed) : Type 0 where
  pub onward : at < r.next
  pub within : r.next ≤ length w
  pub each : at + r.count ≤ r.next
  pub is : begun but false (drop at w) ≡ r.count + begun but false (drop r.next w)

-- r characters are written with another first byte than `but`; where they are more than `most`, r is that
pub record Others (w : List ℕ) (but most r : ℕ) : Type 0 where
  pub within : r ≤ most
  pub says : (v : List ℕ) → w ≡ raw v
      → (n : ℕ) × Count (λ (b : ℕ). ¬ (slice_index (spell b) 0 ≡ but)) v n × (n ≤ most → r ≡ n) × (most ≤ n → r ≡ most)

pub record Characters (w : List ℕ) (r : ℕ) : Type 0 where
  pub within : r ≤ length w
  pub says : (v : List ℕ) → w ≡ raw v → r ≡ length v

-- at least so many characters aren't the undefined one, which is written as it reads
pub record HasDefined (w : List ℕ) (undefined enough : ℕ) (r : Bool) : Type 0 where
  pub says : spell undefined ≡ undefined ∷ [] → (v : List ℕ) → w ≡ raw v
      → (n : ℕ) × Count (λ (b : ℕ). ¬ (b ≡ undefined)) v n × Tells r (enough ≤ n)

-- ---- symbols

-- the class of a kind's symbols
abbrev pub symbol_class : Rules.Kind → ℕ
symbol_class dna = 1
symbol_class rna = 1
symbol_class aa = 2

-- at each byte the class whose symbol it is
pub record SymbolTable (t : List ℕ) : Type 0 where
  pub at_byte : (k : Rules.Kind) (b : ℕ) → b < 256 → (slice_index t b == symbol_class k) ≡ is_symbol k b

-- b is none of the bytes from one to another
abbrev pub is_outside : ℕ → ℕ → ℕ → Bool
is_outside first last b = nat_lt b first || nat_lt last b

-- b is a symbol of each kind of the class
abbrev pub OfClass : ℕ → ℕ → Type 0
OfClass class b = (k : Rules.Kind) → class ≡ symbol_class k → is_symbol k b ≡ true

-- a test of b; above 0 nothing is said
pub record Strange (b class r : ℕ) : Type 0 where
  pub none : r ≡ 0 → OfClass class b

-- each byte from a place to another is a symbol of the class
abbrev pub Between : List ℕ → ℕ → ℕ → ℕ → Type 0
Between w class from to = (i : ℕ) → from ≤ i → i < to → OfClass class (slice_index w i)

-- a test of 64 bytes; above 0 nothing is said
pub record Block (w : List ℕ) (class at r : ℕ) : Type 0 where
  pub none : r ≡ 0 → Between w class at (at + 64)

-- symbols reach from a place at least to r
pub record Reach (w : List ℕ) (class from r : ℕ) : Type 0 where
  pub onward : from ≤ r
  pub inside : r ≤ length w
  pub each : Between w class from r

-- and there stands none, unless it is the end
pub record Foreign (w : List ℕ) (class from r : ℕ) : Type 0 where
  pub reach : Reach w class from r
  pub there : r < length w → (k : Rules.Kind) → class ≡ symbol_class k → is_symbol k (slice_index w r) ≡ false

-- r bytes are written before the first residue that is no symbol of the kind
pub record Symbols (w : List ℕ) (class r : ℕ) : Type 0 where
  pub within : r ≤ length w
  pub says : (k : Rules.Kind) → class ≡ symbol_class k → (v : List ℕ) → w ≡ raw v → r ≡ length (raw (leading (is_symbol k) v))
