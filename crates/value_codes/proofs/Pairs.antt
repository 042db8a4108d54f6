-- Two bytes of a class: from the bytes to the text that they are written from.
use Prim.Native.Nat.{ℕ}
use mathlib.Core.Bool.{Bool}
use mathlib.Core.List.{List}
use Rattle.paper.specs.Values.{Two}
use Rattle.value_words.specs.Reading.{Tells, OfRead}
use Rattle.value_words.proofs.Read.{Plain, raw_plain, tells_read}

-- such bytes are written as they read
pub tells_two : (f : ℕ → Bool) → Plain f → {w : List ℕ} (r : Bool) → Tells r (Two f w) → OfRead w (Two f) r
tells_two f plain r t = tells_read (Two f) (λ v x. raw_plain f plain v x.1) r t
