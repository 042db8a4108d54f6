-- What the lent table of a genetic code holds: the base set of each letter, "the 4,096 answers for three four-bit base sets", the letters
-- of plain codons, and the letters of its stops.
use Rattle.std.specs.Prelude.{◌≡◌, ℕ, ◌+◌, ◌*◌, ◌/◌, ◌%◌, ◌<◌, Bool, true, false, cond, List, [], ◌∷◌, ◌++◌, map, ◌==◌, slice_index}
use Rattle.paper.specs.Bytes.{bytes, spell}
use Rattle.paper.specs.Lists.{gather}
use Rattle.paper.specs.Translation.{Code, bases_of, complement_of, plain_letters, most_restrictive}
use Rattle.protein_code.specs.Stops.{is_stop, letter_here, is_told}
use Rattle.protein_code.specs.Plain.{Plain, plain_number}

-- ---- base sets

-- a base, where its bit is in the set x
abbrev pub with_bit : ℕ → ℕ → List ℕ → List ℕ
with_bit bit x base = cond (x / bit % 2 == 1) base []

-- the plain bases of a four-bit set, in the order in which the paper lists those of a letter
abbrev pub set_bases : ℕ → List ℕ
set_bases x = with_bit 1 x (bytes "a") ++ with_bit 2 x (bytes "c") ++ with_bit 8 x (bytes "g") ++ with_bit 4 x (bytes "t")

-- the letter of three sets: the most restrictive one of their plain codons
abbrev pub sets_letter : Code → ℕ → ℕ → ℕ → ℕ
sets_letter g x y z = most_restrictive (plain_letters g (set_bases x) (set_bases y) (set_bases z))

-- the answer at an index, which has the first set slowest
abbrev pub answer_at : Code → ℕ → ℕ
answer_at g i = sets_letter g (i / 256) (i / 16 % 16) (i % 16)

-- a residue as it is read on a strand
abbrev pub on_strand : Bool → ℕ → ℕ
on_strand true b = complement_of b
on_strand false b = b

-- r is the base set of the residue b on a strand
pub record SetAt (turned : Bool) (b r : ℕ) : Type 0 where
  pub small : r < 16
  pub bases : set_bases r ≡ bases_of (on_strand turned b)

-- ---- the table

-- where the base sets of a strand start, the letters of its plain codons, and its stops; the answers stand first
abbrev pub sets_from : Bool → ℕ
sets_from true = 4352
sets_from false = 4096

abbrev pub plain_from : Bool → ℕ
plain_from true = 4864
plain_from false = 4608

abbrev pub stops_from : Bool → ℕ
stops_from true = 5124
stops_from false = 5120

-- the letters of a code are written as they are read
abbrev pub SelfSpelt : Code → Type 0
SelfSpelt g = map spell g ≡ map (λ (b : ℕ). b ∷ []) g

-- "the 4,096 answers for three four-bit base sets": each stands at its index
abbrev pub Answers : Code → List ℕ → Type 0
Answers g t = (i : ℕ) → i < 4096 → slice_index t i ≡ answer_at g i

-- t is the table of the code g
pub record CodeTable (g : Code) (t : List ℕ) : Type 0 where
  pub spelt : SelfSpelt g
  pub sets : (turned : Bool) (b : ℕ) → b < 256 → SetAt turned b (slice_index t (sets_from turned + b))
  pub answer : Answers g t
  pub plain : (turned : Bool) (x y z w : ℕ) → Plain x → Plain y → Plain z
      → slice_index t (plain_from turned + plain_number x y z w) ≡ letter_here g turned x y z
  pub stops : (turned : Bool) (x y z : ℕ) → x < 256 → y < 256 → z < 256
      → is_told turned (λ (i : ℕ). slice_index t (stops_from turned + i)) x y z ≡ false → is_stop (letter_here g turned x y z) ≡ false

-- ---- the code of a table

-- the places of the plain codons, "for bases in order t, c, a, g, first base slowest"
abbrev pub plain_places : List ℕ
plain_places =
    let bases : List ℕ = 4 ∷ 2 ∷ 1 ∷ 8 ∷ [] in
    gather (λ (a : ℕ). gather (λ (b : ℕ). map (λ (c : ℕ). a * 256 + b * 16 + c) bases) bases) bases

-- a table has the letters of its code
unfoldable pub code_of : List ℕ → Code
code_of t = map (λ (i : ℕ). slice_index t i) plain_places

-- t is the table of some code
abbrev pub Coded : List ℕ → Type 0
Coded t = CodeTable (code_of t) t
