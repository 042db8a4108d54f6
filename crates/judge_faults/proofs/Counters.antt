-- Counters with a cap.
use Prim.Native.Nat.{ℕ, suc, ◌+◌, ◌≤◌, ◌<◌}
use native.Mathlib.Decide.{dec_le}
use native.Mathlib.Omega.{arith}
use mathlib.Core.Path.{◌≡◌, refl, ◌∙◌}
use borrow.Author.Tests.{lt-ltb, le-ltb}
use Rattle.judge_faults.specs.Counters.{up_to, Capped}

pub up_more : (limit n : ℕ) → n < limit → up_to limit n ≡ n + 1
up_more limit n h = rw (lt-ltb n limit h) refl

pub up_full : (limit n : ℕ) → limit ≤ n → up_to limit n ≡ n
up_full limit n h = rw (le-ltb n limit h) refl

pub capped_none : Capped 0 0
capped_none = record { few = λ h. refl; many = λ h. absurd (omega arith) }

pub capped_more : (m n : ℕ) → Capped m n → Capped (suc m) (up_to 2 n)
capped_more m n c = cases (dec_le 2 m)
  where
    cases : Dec (2 ≤ m) → Capped (suc m) (up_to 2 n)
    cases (yes g) = let e = c.many g in record { few = λ h. absurd (omega (arith, g, h)); many = λ h. up_full 2 n (omega (arith, e)) ∙ e }
    cases (no g) =
        let e = c.few (omega arith) in
        let u = up_more 2 n (omega (arith, e)) in
        record { few = λ h. omega (arith, u, e); many = λ h. omega (arith, h, u, e) }

-- exactly one, as the number says
pub capped_one : {m n : ℕ} → Capped m n → n ≡ 1 → m ≡ 1
capped_one {m} c e = cases (dec_le 2 m)
  where
    cases : Dec (2 ≤ m) → m ≡ 1
    cases (yes g) = absurd (omega (arith, e, c.many g))
    cases (no g) = omega (arith, e, c.few (omega arith))

pub one_capped : {m n : ℕ} → Capped m n → m ≡ 1 → n ≡ 1
one_capped c e = omega (arith, e, c.few (omega (arith, e)))
