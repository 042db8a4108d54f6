-- Counters with a cap.
use Rattle.std.specs.Prelude.{ℕ, ◌+◌, ◌≤◌, ◌≡◌, Bool, cond, ltb}

-- one more, up to a limit
abbrev pub up_to : ℕ → ℕ → ℕ
up_to limit n = cond (ltb n limit) (n + 1) n

-- one more if it is one, up to two
abbrev pub up_to_two : Bool → ℕ → ℕ
up_to_two one n = cond one (up_to 2 n) n

-- n stands for m: itself up to 1, and 2 for more
pub record Capped (m n : ℕ) : Type 0 where
  pub few : m ≤ 1 → n ≡ m
  pub many : 2 ≤ m → n ≡ 2
