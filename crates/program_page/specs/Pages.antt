-- What each function of the page promises.
use Rattle.std.specs.Prelude.{ℕ, ◌+◌, ◌≤◌, ◌≡◌, List, length, take}
use Rattle.io.specs.Counts.{IsPrefixLen}
use Rattle.lent_room.specs.Room.{Puts}
use Rattle.paper.specs.Answers.{line, Prints}

-- a line at a place, with a number of at most 20 digits
pub record PutsLine (at : ℕ) (before word : List ℕ) (n end : ℕ) (after : List ℕ) : Type 0 where
  pub stands : Puts at (line word n) before end after
  pub short : end ≤ at + length word + 22

-- the first bytes of the room are the text x, of at most 161 bytes
pub record Shows (x : List ℕ) (size : ℕ) (room : List ℕ) : Type 0 where
  pub fits : size ≤ 161
  pub counts : IsPrefixLen size room
  pub holds : take size room ≡ x

-- they are what the program prints for the bytes w
pub record ShowsPage (w : List ℕ) (size : ℕ) (room : List ℕ) : Type 0 where
  pub text : List ℕ
  pub prints : Prints w text
  pub shows : Shows text size room
