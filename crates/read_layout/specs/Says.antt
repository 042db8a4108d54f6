-- What the layout says of some bytes: rules 1 and 2 of document 01.
use Rattle.std.specs.Prelude.{ℕ, ◌≤◌, ◌<◌, Result, Ok, Err, List, length}
use Rattle.paper.specs.Tree.{Listing}
use Rattle.paper.specs.Layout.{LaidOut}
use Rattle.paper.specs.Answers.{limit, Strays}
use Rattle.paper.specs.declared.Refused.{Refused}

-- "Rule 1 comes first, then 2": the number of the broken rule, and its place
pub data Refuses (w : List ℕ) : ℕ → ℕ → Type 0 where
  too_long : limit < length w → Refuses w 1 0
  strays : {p : ℕ} → length w ≤ limit → Strays w p → Refuses w 2 p

-- a listing is laid out as w, within the limit
pub record Lays (w : List ℕ) : Type 0 where
  pub short : length w ≤ limit
  pub listing : Listing ℕ
  pub laid : LaidOut listing w

abbrev pub Shape : Type 0
Shape = Result (Unit {0}) Refused

abbrev pub ShapeSays : List ℕ → Shape → Type 0
ShapeSays w (Ok u) = Lays w
ShapeSays w (Err r) = Refuses w r.rule r.place
