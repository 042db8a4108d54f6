-- What is promised of the judgement of a location.
use Rattle.std.specs.Prelude.{ℕ, ◌≡◌, Bool, List, Option, None, Some}
use Rattle.paper.specs.Bytes.{raw}
use Rattle.paper.specs.Locations.{Location, Locates, breaks25, has_complement, leaves_unjudged}
use Rattle.read_steps.specs.Parts.{ShowsBytes}
use Rattle.location_judge.specs.declared.judging.Facts.{Facts}

-- the facts of the location t, for a sequence of L residues
pub record AreFacts (L : ℕ) (t : Location) (f : Facts) : Type 0 where
  pub wrong : f.wrong ≡ breaks25 L t
  pub complemented : f.complemented ≡ has_complement t
  pub unjudged : f.unjudged ≡ leaves_unjudged t

-- of the text as read w, rule 24 is broken: no location is written so; or one is, with these facts
abbrev pub JudgedText : ℕ → List ℕ → Option Facts → Type 0
JudgedText L w None = (t : Location) → Locates t w → ⊥
JudgedText L w (Some f) = (t : Location) × Locates t w × AreFacts L t f

-- the bytes s are the location t, as it is written
pub record Spells (s : List ℕ) (t : Location) : Type 0 where
  pub text : List ℕ
  pub written : s ≡ raw text
  pub located : Locates t text

-- of whatever bytes: rule 24 is broken, since they are no location; or they are one, with these facts
abbrev pub Judges : List ℕ → ℕ → Option Facts → Type 0
Judges s L None = (t : Location) → Spells s t → ⊥
Judges s L (Some f) = (t : Location) × Spells s t × AreFacts L t f

-- the verdict on the part that stands from here to there
pub record JudgesPart (s : List ℕ) (from to L : ℕ) (r : Option Facts) : Type 0 where
  pub is : (w : List ℕ) → ShowsBytes s from to w → Judges w L r

-- ---- whether a location leaves its region unjudged

-- of whichever location the bytes are
pub record LeavesRegion (s : List ℕ) (r : Bool) : Type 0 where
  pub says : (t : Location) → Spells s t → r ≡ leaves_unjudged t

pub record LeavesPart (s : List ℕ) (from to : ℕ) (r : Bool) : Type 0 where
  pub is : (w : List ℕ) → ShowsBytes s from to w → LeavesRegion w r
