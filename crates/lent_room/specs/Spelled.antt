-- The first character of a written text.
use Rattle.std.specs.Prelude.{ℕ, ◌<◌, ◌≡◌, List, ◌++◌, drop}
use Rattle.paper.specs.Bytes.{spell}

-- whichever character is written at a place, b is it and `next` stands behind it; there is a step forward whatever the bytes are
pub record FirstCharacter (text : List ℕ) (at b next : ℕ) : Type 0 where
  pub onward : at < next
  pub says : (c : ℕ) (r : List ℕ) → drop at text ≡ spell c ++ r → (b ≡ c) × (drop next text ≡ r)
