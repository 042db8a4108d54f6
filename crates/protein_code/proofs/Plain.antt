-- Plain letters told by comparing, and the letters of plain codons, by a test over all 64.
use Rattle.std.proofs.Common.{◌≡◌, ℕ, ◌+◌, ◌*◌, ◌/◌, ◌%◌, ◌<◌, Bool, eqb, List, get_or, arith}
use Prim.Native.Char.{code}
use lib.Bits.{bit_or}
use Rattle.paper.specs.Bytes.{bytes}
use Rattle.paper.proofs.Tables.{listed, each_same}
use Rattle.paper.specs.Translation.{Code}
use Rattle.read_bytes.specs.Numbers.{flag}
use Rattle.read_bytes.proofs.Numbers.{one_of}
use Rattle.protein_code.specs.Stops.{letter_here}
use Rattle.protein_code.specs.Plain.{base, Plain, plain_number}

-- ---- one of four letters

pub plain_told : (b : ℕ) {p q r s n : ℕ} → p ≡ flag (eqb b (code "a")) → q ≡ flag (eqb b (code "c")) → r ≡ flag (eqb b (code "g"))
    → s ≡ flag (eqb b (code "t")) → n ≡ flag (eqb (bit_or (bit_or (bit_or p q) r) s) 0) → n ≡ 0 → Plain b
plain_told b e f g h k z =
    let o = one_of b (bytes "acgt") (rw (e, f, g, h) at k) z in
    record { number = o.0; small = o.1; is = o.2 }

-- ---- the letters of plain codons

-- the residue behind them says nothing
behind : (x y z w : ℕ) → plain_number x y z w ≡ plain_number x y z 0
behind x y z w =
    let a = x + 256 * y + 65536 * z in
    let more : (a * 4002048 + 16777216 * (4002048 * w)) / 16777216 ≡ a * 4002048 / 16777216 + 4002048 * w = omega arith in
    let left : (x + 256 * y + 65536 * (z + 256 * w)) * 4002048 ≡ a * 4002048 + 16777216 * (4002048 * w) = omega arith in
    let right : (x + 256 * y + 65536 * (z + 256 * 0)) * 4002048 ≡ a * 4002048 = omega arith in
    rw (left, right, more) (omega arith)

-- the codon of a number below 64
abbrev codon_of : (ℕ → ℕ → ℕ → ℕ) → ℕ → ℕ
codon_of f i = f (base (i / 16)) (base (i / 4 % 4)) (base (i % 4))

module _ (g : Code) (turned : Bool) (p : List ℕ) where
  abbrev here : ℕ → ℕ → ℕ → ℕ
  here x y z = get_or p (plain_number x y z 0) 0

  -- the test of a table's part: at its number each of the 64 has its letter
  abbrev pub PlainTest : Type 0
  PlainTest = listed (codon_of here) 0 64 ≡ listed (codon_of (letter_here g turned)) 0 64

  module _ (same : PlainTest) where
    at_number : (i a b c : ℕ) → i < 64 → i / 16 ≡ a → i / 4 % 4 ≡ b → i % 4 ≡ c
        → here (base a) (base b) (base c) ≡ letter_here g turned (base a) (base b) (base c)
    at_number i a b c h e f k = rw (← e, ← f, ← k) (each_same (codon_of here) (codon_of (letter_here g turned)) 64 same i h)

    pub plain_right : (x y z w : ℕ) → Plain x → Plain y → Plain z → get_or p (plain_number x y z w) 0 ≡ letter_here g turned x y z
    plain_right x y z w l m n =
        let a = l.number in
        let b = m.number in
        let c = n.number in
        let small : (a < 4) × (b < 4) × (c < 4) = (l.small, m.small, n.small) in
        rw (behind x y z w, l.is, m.is, n.is)
        (at_number (a * 16 + b * 4 + c) a b c (omega (arith, small)) (omega (arith, small)) (omega (arith, small)) (omega (arith, small)))
