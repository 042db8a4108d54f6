-- Which bytes stand for themselves in a text, the lent table that says so, and where a scan of a class goes.
use Rattle.std.specs.Prelude.{ℕ, ◌≤◌, ◌<◌, ◌≡◌, Bool, true, false, ◌&&◌, ◌||◌, not, List, [], ◌∷◌, length, get_or, eqb, leb}
use Rattle.paper.specs.Bytes.{bytes, among, is_printed, is_printed_or_high, spell}
use Rattle.paper.specs.Form.{Form}

-- the characters of a text; `high`: "may also hold bytes 128 to 255"
abbrev pub allowed_in : Bool → ℕ → Bool
allowed_in true = is_printed_or_high
allowed_in false = is_printed

-- the byte b stands for itself
abbrev pub is_plain : Bool → ℕ → Bool
is_plain high b = allowed_in high b && not (among (bytes "<>&\"'") b)

-- what a character may be written with at its start
abbrev pub is_text : Bool → ℕ → Bool
is_text high b = is_plain high b || eqb b 38

-- one byte of a class, with the byte as its value
abbrev pub One : (ℕ → Bool) → ℕ → Form
One f b at w = (w ≡ b ∷ []) × (f b ≡ true)

-- the character b as it is written
abbrev pub letter : Bool → ℕ → Form
letter high b at w = (allowed_in high b ≡ true) × (w ≡ spell b)

-- the highest class of a byte that stands for itself
abbrev pub class_in : Bool → ℕ
class_in false = 0
class_in true = 1

-- at each byte: 0 where it stands for itself in every text, 1 where it does in texts that allow high bytes, more where in none
pub record ClassTable (t : List ℕ) : Type 0 where
  pub at_byte : (high : Bool) (b : ℕ) → b < 256 → leb (get_or t b 0) (class_in high) ≡ is_plain high b

-- from a place to another each byte is of the class f
abbrev pub Upto : (ℕ → Bool) → List ℕ → ℕ → ℕ → Type 0
Upto f s start at = (k : ℕ) → start ≤ k → k < at → (k < length s) × (f (get_or s k 0) ≡ true)

pub record Passed (f : ℕ → Bool) (s : List ℕ) (start r : ℕ) : Type 0 where
  pub onward : start ≤ r
  pub each : Upto f s start r

-- and where the scan stopped, before `stop`, none
pub record Scanned (f : ℕ → Bool) (s : List ℕ) (start stop r : ℕ) : Type 0 where
  pub onward : start ≤ r
  pub each : Upto f s start r
  pub ends : r < stop → f (get_or s r 0) ≡ false

-- tests as numbers, to be joined without a branch
pub record Below (a b r : ℕ) : Type 0 where
  pub none : r ≡ 0 → b ≤ a

pub record Odd (b r : ℕ) : Type 0 where
  pub none : r ≡ 0 → is_plain false b ≡ true

pub record Block (x : List ℕ) (r : ℕ) : Type 0 where
  pub none : r ≡ 0 → Upto (is_plain false) x 0 (length x)
