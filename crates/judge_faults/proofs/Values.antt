-- The fault of one text, from the test of its bytes.
use Prim.Native.Nat.{ℕ}
use mathlib.Core.Path.{◌≡◌, ap, ◌∙◌}
use mathlib.Core.Bool.{Bool}
use mathlib.Core.List.{List}
use Rattle.paper.specs.Tree.{Text}
use Rattle.read_steps.specs.Parts.{ShowsBytes}
use Rattle.value_words.specs.Reading.{OfRead}
use Rattle.walk_steps.specs.Stands.{IsPart}
use Rattle.walk_steps.specs.declared.Range.{Range}
use Rattle.judge_faults.specs.Sets.{Fault, Firsts, Bad, unless_of}
use Rattle.judge_faults.proofs.Bytes.{part_shows}
use Rattle.judge_faults.proofs.Faults.{firsts_unless}

pub text_fault : (m : ℕ) (A : List ℕ → Type 0) {s w : List ℕ} {x : Text ℕ} {p : Range} (ok : Bool) {r : Fault} → IsPart s x p → ShowsBytes s p.from p.to w
    → OfRead w A ok → r ≡ unless_of ok m p.from → Firsts (Bad m x.place (A x.read)) r
text_fault m A {x = x} ok i h o e = firsts_unless ok m x.place (o.says x.read (part_shows i h)) (e ∙ ap (unless_of ok m) i.first)
