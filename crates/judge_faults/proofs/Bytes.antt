-- The bytes of a part, and the text as read that they are written from.
use Prim.Native.Nat.{ℕ}
use native.Mathlib.Omega.{arith}
use mathlib.Core.Path.{◌≡◌, subst}
use mathlib.Core.List.{List}
use Rattle.paper.specs.Bytes.{raw}
use Rattle.paper.specs.Tree.{Text}
use Rattle.read_steps.specs.Parts.{ShowsBytes}
use Rattle.read_steps.proofs.Parts.{shows_any}
use Rattle.walk_steps.specs.Stands.{IsPart}
use Rattle.walk_steps.specs.declared.Range.{Range}

-- a part shows its text as it is written
pub part_shows : {s r : List ℕ} {x : Text ℕ} {p : Range} → IsPart s x p → ShowsBytes s p.from p.to r → r ≡ raw x.read
part_shows {x = x} i h = h.is (raw x.read) i.here (omega (arith, i.first, i.behind))

-- and it does show it
pub text_shown : {s : List ℕ} {x : Text ℕ} {p : Range} → IsPart s x p → ShowsBytes s p.from p.to (raw x.read)
text_shown {s} {p = p} i = let y = shows_any s p.from p.to in subst (ShowsBytes s p.from p.to) (part_shows i y.1) y.1
