-- What inner functions of the walk promise: the member at a place, what is given of it, and where the last one starts.
use Rattle.std.specs.Prelude.{ℕ, ◌-◌, ◌≤◌, ◌<◌, ◌≡◌, Bool, true, ◌⊎◌, List, ◌++◌, get_or, Option, None, Some}
use Prim.Native.Char.{code}
use Rattle.paper.specs.Locations.{piece_text, complement}
use Rattle.paper.specs.Locations as paper
use Rattle.paper.proofs.Locate.Pieces.{Follow}
use Rattle.location_judge.specs.Places.{RestIs}
use Rattle.location_judge.specs.Readings.{Keeps, piece_within, wrong_of}
use Rattle.location_judge.specs.declared.pieces.Reach.{Reach}
use Rattle.location_judge.specs.declared.pieces.FoundPiece.{FoundPiece}
use Rattle.location_spans.specs.Walking.{span_is}
use Rattle.location_spans.specs.declared.walking.Walk.{Walk}
use Rattle.location_spans.specs.declared.walking.NextSpan.{NextSpan}

-- what is given of a segment or site, unless it breaks rule 25
abbrev pub GiveSays : ℕ → Reach → Walk → Option NextSpan → Type 0
GiveSays L a w None = wrong_of L a.first a.last a.marks ≡ true
GiveSays L a w (Some x) =
    (x.left ≡ w) × (span_is x.span ≡ record { first = a.first; last = a.last; marks = a.marks }) × (a.first ≤ L) × (a.last ≤ L)

pub record Gives (L : ℕ) (a : Reach) (w : Walk) (r : Option NextSpan) : Type 0 where
  pub says : GiveSays L a w r

-- r is the member c p, with z behind it
abbrev pub MemberSays : List ℕ → Bool → paper.Piece → List ℕ → Option FoundPiece → Type 0
MemberSays s c p z None = ⊥
MemberSays s c p z (Some x) = Keeps c p x.reach x.odd × RestIs s x.end z

-- r is whichever member is written at a place
pub record Members (s : List ℕ) (at : ℕ) (r : Option FoundPiece) : Type 0 where
  pub within : piece_within s at r
  pub says : (c : Bool) (p : paper.Piece) (u z : List ℕ) → complement c (piece_text p) 0 u → RestIs s at (u ++ z) → Follow z → MemberSays s c p z r

-- from i to `at` there is no `,`, and i is low or behind one
pub record LastStart (s : List ℕ) (low at i : ℕ) : Type 0 where
  pub after : low ≤ i
  pub before : i ≤ at
  pub none_in : (j : ℕ) → i ≤ j → j < at → get_or s j 0 ≡ code "," → ⊥
  pub comma : (i ≡ low) ⊎ ((low < i) × (get_or s (i - 1) 0 ≡ code ","))
