-- What is promised of a reading of the coding text: which text is left of it.
use Rattle.std.specs.Prelude.{ℕ, suc, ◌+◌, ◌*◌, ◌-◌, ◌≤◌, ◌<◌, ◌≡◌, Bool, true, false, cond, List, [], ◌∷◌, ◌++◌, map, reverse, length, drop, Option, None, Some}
use Rattle.std.proofs.Math.Seq.{slice}
use Rattle.paper.specs.Bytes.{raw}
use Rattle.paper.specs.Locations.{Location, Locates, breaks25}
use Rattle.paper.specs.Locations as paper
use Rattle.paper.specs.Translation.{Code, bases_of, complement_of, residues_of, coding_text, letters}
use Rattle.protein_code.specs.Tables.{set_bases}
use Rattle.protein_blocks.specs.Blocks.{AllPlain}
use Rattle.location_spans.specs.Walking.{Left, steps_left, span_is}
use Rattle.location_spans.specs.declared.walking.Triple.{Triple}
use Rattle.location_spans.specs.declared.walking.Walk.{Walk}
use Rattle.protein_codons.specs.declared.Reading.{Reading}

-- what is left of the current span lies in the n residues
pub record Ready (n : ℕ) (x : Reading) : Type 0 where
  pub order : x.span.low ≤ x.span.high
  pub inside : x.span.high ≤ n

-- "complemented spans read backwards through .."
abbrev pub strand : Bool → List ℕ → List ℕ
strand turned l = cond turned (reverse (map complement_of l)) l

-- the residues that are left of the current span
abbrev pub current : List ℕ → Reading → List ℕ
current s x = strand x.span.turned (slice x.span.low x.span.high s)

-- the letters of the codons that stand whole between two places
unfoldable pub span_letters : Code → List ℕ → ℕ → ℕ → Bool → List ℕ
span_letters gc s low high turned = letters gc (strand turned (slice low high s))

-- where the codon k of them stands: the least place of its residues
abbrev pub place_of : (low high : ℕ) → Bool → ℕ → ℕ
place_of low high true k = high - (3 * k + 3)
place_of low high false k = low + 3 * k

-- where the 64 codons from k on stand
abbrev pub block_of : (low high : ℕ) → Bool → ℕ → ℕ
block_of low high true k = place_of low high true (k + 63)
block_of low high false k = place_of low high false k

-- the residues of the block from the codon k on are plain, and one more stands behind them
pub record PlainBlock (s : List ℕ) (low high : ℕ) (turned : Bool) (k : ℕ) : Type 0 where
  pub room : block_of low high turned k + 193 ≤ length s
  pub plain : AllPlain s (block_of low high turned k) 192

-- this text is left: "concatenate the spans' residues"
pub record TextLeft (s loc : List ℕ) (L : ℕ) (x : Reading) (text : List ℕ) : Type 0 where
  pub others : List paper.Span
  pub left : Left loc L x.walk others
  pub is : text ≡ current s x ++ coding_text s others

-- more residues than this a reading cannot give, whatever the bytes are: n and m are the sizes of the residues and of the location
unfoldable pub residues_left : ℕ → ℕ → Reading → ℕ
residues_left n m x = steps_left m x.walk * suc n + (x.span.high - x.span.low)

-- the reading y that has the whole span x before the walk w
pub record Opens (x : Triple) (w : Walk) (y : Reading) : Type 0 where
  pub order : y.span.low ≤ y.span.high
  pub inside : y.span.high ≤ x.last
  pub walk : y.walk ≡ w
  pub is : (s : List ℕ) → x.first ≤ length s → current s y ≡ residues_of s (span_is x)

-- y leaves what x leaves, and has residues in its current span where any are left
pub record Fills (s loc : List ℕ) (L : ℕ) (x y : Reading) : Type 0 where
  pub ready : Ready (length s) y
  pub falls : residues_left (length s) (length loc) y ≤ residues_left (length s) (length loc) x
  pub keeps : (text : List ℕ) → TextLeft s loc L x text → TextLeft s loc L y text
  pub ends : y.span.low ≡ y.span.high → (text : List ℕ) → TextLeft s loc L x text → text ≡ []

-- b is the base set of the first residue of the text, and y leaves the others
pub record FirstBase (s loc : List ℕ) (L : ℕ) (b : ℕ) (y : Reading) (text : List ℕ) : Type 0 where
  pub first : ℕ
  pub others : List ℕ
  pub is : text ≡ first ∷ others
  pub set : set_bases b ≡ bases_of first
  pub left : TextLeft s loc L y others

pub record BaseIs (s loc : List ℕ) (L : ℕ) (x : Reading) (b : ℕ) (y : Reading) : Type 0 where
  pub small : b < 16
  pub ready : Ready (length s) y
  pub falls : residues_left (length s) (length loc) y < residues_left (length s) (length loc) x
  pub gives : (text : List ℕ) → TextLeft s loc L x text → FirstBase s loc L b y text

abbrev pub BaseSays : List ℕ → List ℕ → ℕ → Reading → Option (ℕ × Reading) → Type 0
BaseSays s loc L x None = (text : List ℕ) → TextLeft s loc L x text → text ≡ []
BaseSays s loc L x (Some r) = BaseIs s loc L x r.0 r.1

pub record Bases (s loc : List ℕ) (L : ℕ) (x : Reading) (r : Option (ℕ × Reading)) : Type 0 where
  pub says : BaseSays s loc L x r

-- y has passed k whole codons of the current span of x
pub record Onward (x : Reading) (k : ℕ) (y : Reading) : Type 0 where
  pub walk : y.walk ≡ x.walk
  pub order : y.span.low ≤ y.span.high
  pub inside : y.span.high ≤ x.span.high
  pub size : y.span.high - y.span.low + 3 * k ≡ x.span.high - x.span.low
  pub is : (s : List ℕ) → x.span.high ≤ length s → current s y ≡ drop (3 * k) (current s x)

-- d are the letters of the first whole codons of the text, and y leaves the residues behind them
pub record FirstLetters (gc : Code) (s loc : List ℕ) (L : ℕ) (d : List ℕ) (y : Reading) (text : List ℕ) : Type 0 where
  pub others : List ℕ
  pub is : letters gc text ≡ d ++ letters gc others
  pub left : TextLeft s loc L y others

pub record Gives (gc : Code) (s loc : List ℕ) (L : ℕ) (x : Reading) (d : List ℕ) (y : Reading) : Type 0 where
  pub ready : Ready (length s) y
  pub gives : (text : List ℕ) → TextLeft s loc L x text → FirstLetters gc s loc L d y text

-- c is the next letter
pub record LetterIs (gc : Code) (s loc : List ℕ) (L : ℕ) (x : Reading) (c : ℕ) (y : Reading) : Type 0 where
  pub one : Gives gc s loc L x (c ∷ []) y
  pub falls : residues_left (length s) (length loc) y < residues_left (length s) (length loc) x

abbrev pub LetterSays : Code → List ℕ → List ℕ → ℕ → Reading → Option (ℕ × Reading) → Type 0
LetterSays gc s loc L x None = (text : List ℕ) → TextLeft s loc L x text → letters gc text ≡ []
LetterSays gc s loc L x (Some r) = LetterIs gc s loc L x r.0 r.1

pub record Letters (gc : Code) (s loc : List ℕ) (L : ℕ) (x : Reading) (r : Option (ℕ × Reading)) : Type 0 where
  pub says : LetterSays gc s loc L x r

-- y leaves what x leaves but for its first k residues
pub record Skips (s loc : List ℕ) (L : ℕ) (x : Reading) (k : ℕ) (y : Reading) : Type 0 where
  pub ready : Ready (length s) y
  pub keeps : (text : List ℕ) → TextLeft s loc L x text → TextLeft s loc L y (drop k text)

-- of a sequence with the L residues s, loc is the location t as it is written, and t keeps rule 25
pub record Codes (s loc : List ℕ) (L : ℕ) (t : Location) : Type 0 where
  pub sized : length s ≡ L
  pub read : List ℕ
  pub written : loc ≡ raw read
  pub located : Locates t read
  pub right : breaks25 L t ≡ false

-- y leaves the coding text: "drop codon_start minus 1 residues"
pub record BeginsText (s loc : List ℕ) (L start : ℕ) (y : Reading) : Type 0 where
  pub ready : Ready (length s) y
  pub leaves : (t : Location) → Codes s loc L t → TextLeft s loc L y (drop (start - 1) (coding_text s (paper.spans t)))

-- whether a text has no whole codon
abbrev pub NoLetter : List ℕ → Bool → Type 0
NoLetter l true = l ≡ []
NoLetter l false = (c : ℕ) × (k : List ℕ) × (l ≡ c ∷ k)

pub record Ends (gc : Code) (s loc : List ℕ) (L : ℕ) (x : Reading) (r : Bool) : Type 0 where
  pub says : (text : List ℕ) → TextLeft s loc L x text → NoLetter (letters gc text) r
