-- What is promised of an index that is checked: the checker's refusal, or that it belongs to the listing, whose sequences stand somewhere.
use Rattle.std.specs.Prelude.{ℕ, ◌≡◌, Ok, Err, List, drop}
use Rattle.paper.specs.Form.{each}
use Rattle.paper.specs.Tree.{Listing}
use Rattle.paper.specs.Layout.{child, sequence}
use Rattle.paper.specs.Answers.{refuse, give, Checked}
use Rattle.paper.specs.Index.{index_of, ChecksIndex}
use Rattle.read_steps.specs.Follow.{Starts, closing}
use Rattle.walk_steps.specs.Stands.{Stands}
use Rattle.ask_answers.specs.Stretches.{IndexVerdict}

pub record IndexOf (w x : List ℕ) : Type 0 where
  pub listing : Listing ℕ
  pub accepted : Checked w (give listing)
  pub is : x ≡ index_of listing
  pub first : ℕ
  pub end : ℕ
  pub sequences : Stands (each (child sequence) listing.sequences) w first end
  pub closes : Starts closing (drop end w)

abbrev pub TakesIndex : List ℕ → List ℕ → IndexVerdict → Type 0
TakesIndex w x (Err r) = ChecksIndex w x (refuse r.rule r.place)
TakesIndex w x (Ok y) = IndexOf w x
