-- A tag that stands in a text as most tags are written.
use Rattle.std.specs.Prelude.{ℕ, ◌+◌, List, length}
use Rattle.paper.specs.Bytes.{bytes}
use Rattle.read_bytes.specs.Words.{StandsAt}

-- a tag of this name stands there, `<` or `</` its mark, with no blank before its `>`
pub record Usual (s : List ℕ) (at : ℕ) (mark name : List ℕ) : Type 0 where
  pub marked : StandsAt mark s at
  pub named : StandsAt name s (at + length mark)
  pub closed : StandsAt (bytes ">") s (at + length mark + length name)
