-- A dictionary: its slots, one more than its mask; two bytes for each text, where it starts and how long it is; the texts.
use Rattle.std.specs.Prelude.{ℕ, ◌+◌, ◌*◌, ◌-◌, ◌/◌, ◌%◌, ◌<◌, ◌≤◌, ◌≡◌, Option, Some, List, [], length, get_or, take, drop}
use Rattle.std.specs.Int.Bits.{bit_and}
use Rattle.std.specs.Option.{unwrap_or}

abbrev pub byte_of : List ℕ → ℕ → ℕ
byte_of t i = get_or t i 0

-- two bytes, the low one first
abbrev pub pair_of : List ℕ → ℕ → ℕ
pair_of t i = byte_of t i + 256 * byte_of t (i + 1)

-- the slot of a text
abbrev pub slot_of : (factor mask : ℕ) → List ℕ → ℕ
slot_of factor mask w = bit_and ((byte_of w 0 + 256 * byte_of w (length w - 2) + 65536 * byte_of w (length w / 2)) * factor / 16777216) mask

-- of text k: the length in the low five bits, above them where it starts
abbrev pub entry_of : (mask : ℕ) → List ℕ → ℕ → ℕ
entry_of mask t k = pair_of t (mask + 1 + 2 * k)

abbrev pub text_of : (mask : ℕ) → List ℕ → ℕ → List ℕ
text_of mask t k = take (entry_of mask t k % 32) (drop (entry_of mask t k / 32) t)

-- t has the texts l, and in every slot the number of one of them
pub record Dictionary (factor mask : ℕ) (l : List (List ℕ)) (t : List ℕ) : Type 0 where
  pub few : length l ≤ 255
  pub full : (i : ℕ) → i ≤ mask → byte_of t i < length l
  pub long : (k : ℕ) → k < length l → 2 ≤ length (get_or l k [])
  pub slot : (k : ℕ) → k < length l → byte_of t (slot_of factor mask (get_or l k [])) ≡ k
  pub size : (k : ℕ) → k < length l → entry_of mask t k % 32 ≡ length (get_or l k [])
  pub text : (k : ℕ) → k < length l → text_of mask t k ≡ get_or l k []

-- the number that was found, as a place; 255, which is above all of them, where none was
abbrev pub place_of : Option ℕ → ℕ
place_of r = unwrap_or r 255

-- r is the number of v among the texts l; above all of them where it is none of them
pub record PlaceOf (l : List (List ℕ)) (v : List ℕ) (r : ℕ) : Type 0 where
  pub is : r < length l → v ≡ get_or l r []
  pub found : (k : ℕ) → k < length l → v ≡ get_or l k [] → r ≡ k

-- whatever texts t is a dictionary of, r is w's number among them, or none where w is none of them
pub record FindsText (factor mask : ℕ) (t w : List ℕ) (r : Option ℕ) : Type 0 where
  pub looks : (l : List (List ℕ)) → Dictionary factor mask l t → PlaceOf l w (place_of r)
  pub below : (l : List (List ℕ)) → Dictionary factor mask l t → (k : ℕ) → r ≡ Some k → k < length l
