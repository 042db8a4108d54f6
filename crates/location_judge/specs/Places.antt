-- Texts in the raw bytes of a part: where one stands.
use Rattle.std.specs.Prelude.{ℕ, ◌≤◌, ◌≡◌, List, ◌++◌, length, drop}
use Rattle.paper.specs.Bytes.{raw}

-- from `at` on the bytes s are the text as read w, as it is written, and nothing behind it
pub record RestIs (s : List ℕ) (at : ℕ) (w : List ℕ) : Type 0 where
  pub inside : at ≤ length s
  pub is : drop at s ≡ raw w

-- the bytes from `at` to before n are a text as read, as it is written
pub record Stretch (s : List ℕ) (at n : ℕ) : Type 0 where
  pub onward : at ≤ n
  pub inside : n ≤ length s
  pub text : List ℕ
  pub is : drop at s ≡ raw text ++ drop n s
