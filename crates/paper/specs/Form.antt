-- Forms: which bytes may stand at a place. The words in which the layout and the locations are written.
use Rattle.std.specs.Prelude.{ℕ, ◌+◌, ◌≡◌, Bool, true, ◌⊎◌, List, [], ◌∷◌, ◌++◌, length}
use Prim.Native.String.{String}
use Rattle.std.proofs.Math.Option.{Option, none, some}
use Rattle.paper.specs.Bytes.{bytes, all}

infixl 60 ◌·◌
infixl 50 ◌∪◌
-- `F at w`: the bytes w, at the place `at`, are of the form F
abbrev pub Form : Type 1
Form = ℕ → List ℕ → Type 0

-- these bytes
abbrev pub these : List ℕ → Form
these x at w = w ≡ x

-- this quoted text
abbrev pub lit : String → Form
lit x = these (bytes x)

-- F, and then G
abbrev pub ◌·◌ : Form → Form → Form
◌·◌ F G at w = (u : List ℕ) × (v : List ℕ) × (w ≡ u ++ v) × F at u × G (at + length u) v

-- F or G
abbrev pub ◌∪◌ : Form → Form → Form
◌∪◌ F G at w = F at w ⊎ G at w

-- F, where the fact A holds
abbrev pub given : Type 0 → Form → Form
given A F at w = A × F at w

-- one byte of a class
abbrev pub one : (ℕ → Bool) → Form
one f at w = (b : ℕ) × (w ≡ b ∷ []) × (f b ≡ true)

-- any number of bytes of a class
abbrev pub run : (ℕ → Bool) → Form
run f at w = all f w

-- `?`: at most one
abbrev pub maybe : {A : Type 0} → (A → Form) → Option A → Form
maybe F none = lit ""
maybe F (some a) = F a

-- `*`: each of a list, one after another
abbrev pub each : {A : Type 0} → (A → Form) → List A → Form
each F [] = lit ""
each F (a ∷ l) = F a · each F l

-- `+`: the same for one or more
abbrev pub each⁺ : {A : Type 0} → (A → Form) → List A → Form
each⁺ F [] at w = ⊥
each⁺ F (a ∷ l) at w = (F a · each F l) at w
