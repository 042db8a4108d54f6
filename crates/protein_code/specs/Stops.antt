-- Codons of a strand, and stops told by comparing letters.
use Rattle.std.specs.Prelude.{ℕ, ◌+◌, ◌%◌, ◌^◌, Bool, true, false, ◌&&◌, ◌||◌, ◌==◌}
use Prim.Native.Char.{code}
use Rattle.paper.specs.Translation.{Code, complement_of, codon_letter}

-- the letter of three residues, as they stand, on a strand: "complemented spans read backwards"
abbrev pub letter_here : Code → Bool → ℕ → ℕ → ℕ → ℕ
letter_here g true x y z = codon_letter g (complement_of z) (complement_of y) (complement_of x)
letter_here g false x y z = codon_letter g x y z

abbrev pub is_stop : ℕ → Bool
is_stop c = c == (code "*")

-- the first residue is this letter, and the sum of the two others is one of three
abbrev pub has_sum : (f p q r x y z : ℕ) → Bool
has_sum f p q r x y z = x == f && ((y + z) % 2 ^ 8 == p || (y + z) % 2 ^ 8 == q || (y + z) % 2 ^ 8 == r)

-- three residues, as they stand, have the letters of a stop: the first one's and the sums of the two others, as a table t of four has them
abbrev pub is_told : Bool → (ℕ → ℕ) → ℕ → ℕ → ℕ → Bool
is_told true t x y z = has_sum (t 0) (t 1) (t 2) (t 3) z y x
is_told false t x y z = has_sum (t 0) (t 1) (t 2) (t 3) x y z
