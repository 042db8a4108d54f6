-- What is promised of the codons and the residues of a block.
use Rattle.std.specs.Prelude.{ℕ, ◌+◌, ◌*◌, ◌<◌, ◌≡◌, Bool, false, List, get_or}
use Rattle.paper.specs.Translation.{Code}
use Rattle.protein_code.specs.Stops.{is_stop, letter_here}
use Rattle.protein_code.specs.Plain.{Plain}

-- all bits at the start of each codon
pub record Marks (m : List ℕ) : Type 0 where
  pub at : (i : ℕ) → i < 64 → get_or m (3 * i) 0 ≡ 255

-- the letter of the three residues from a place on, on a strand
abbrev pub letter_from : Code → List ℕ → Bool → ℕ → ℕ
letter_from gc s turned at = letter_here gc turned (get_or s at 0) (get_or s (at + 1) 0) (get_or s (at + 2) 0)

-- no codon that starts in the first n residues from a place on is a stop
pub record NoStop (gc : Code) (s : List ℕ) (turned : Bool) (at n : ℕ) : Type 0 where
  pub none : (i : ℕ) → 3 * i < n → is_stop (letter_from gc s turned (at + 3 * i)) ≡ false

-- the first n residues from a place on are plain
pub record AllPlain (s : List ℕ) (at n : ℕ) : Type 0 where
  pub plain : (j : ℕ) → j < n → Plain (get_or s (at + j) 0)
