-- Words compared eight or four bytes at a time: bytes with one number are the same. And a word that stands is read.
use Prim.Native.Nat.{ℕ, zero, suc, ◌+◌, ◌-◌, ◌≤◌, ◌<◌}
use native.Mathlib.Decide.{dec_le}
use native.Mathlib.Omega.{arith}
use mathlib.Core.Path.{◌≡◌, ap, sym, ◌∙◌, subst}
use mathlib.Core.List.{List}
use lib.ListN.{length, get_or, take, drop}
use lib.Seq.{take-append_seam, take-length}
use Rattle.paper.specs.Form.{these}
use Rattle.read_bytes.specs.Numbers.{LowFirst}
use Rattle.read_bytes.specs.Words.{StandsAt}
use Rattle.read_bytes.proofs.Words.{Alike}
use Rattle.read_steps.specs.Follow.{anything}
use Rattle.read_steps.specs.Reads.{Took}
use Rattle.read_steps.specs.Words.{Eight, Four}
use Rattle.read_steps.proofs.Leaves.{these_took}

two_once : {a b a' b' r r' : ℕ} → LowFirst a b r → LowFirst a' b' r' → r ≡ r' → (a ≡ a') × (b ≡ b')
two_once x y e =
    (omega (arith, e, x.is, x.low, x.high, y.is, y.low, y.high), omega (arith, e, x.is, x.low, x.high, y.is, y.low, y.high))

two_small : {a b r : ℕ} → LowFirst a b r → r < 65536
two_small x = omega (arith, x.is, x.low, x.high)

pub four_small : {s : List ℕ} {m r : ℕ} → Four s m r → r < 4294967296
four_small p = omega (arith, p.is, two_small p.first, two_small p.second)

-- the bytes of four, and of eight, with one number are the same
module _ {s x : List ℕ} where
  pub four_once : {m n r : ℕ} → Four s m r → Four x n r → (k : ℕ) → k < 4 → get_or s (m + k) 0 ≡ get_or x (n + k) 0
  four_once {m} {n} p q = go
    where
      a : (p.low ≡ q.low) × (p.high ≡ q.high)
      a = (omega (arith, p.is, q.is, two_small p.first, two_small q.first), omega (arith, p.is, q.is, two_small p.first, two_small q.first))

      t : (get_or s m 0 ≡ get_or x n 0) × (get_or s (m + 1) 0 ≡ get_or x (n + 1) 0)
      t = two_once p.first q.first a.0

      u : (get_or s (m + 2) 0 ≡ get_or x (n + 2) 0) × (get_or s (m + 3) 0 ≡ get_or x (n + 3) 0)
      u = two_once p.second q.second a.1

      go : (k : ℕ) → k < 4 → get_or s (m + k) 0 ≡ get_or x (n + k) 0
      go zero l = let m₀ : m + 0 ≡ m = omega arith in let n₀ : n + 0 ≡ n = omega arith in rw (m₀, n₀) t.0
      go (suc zero) l = t.1
      go (suc (suc zero)) l = u.0
      go (suc (suc (suc zero))) l = u.1
      go (suc (suc (suc (suc k)))) l = absurd (omega (arith, l))

  pub eight_once : {m n r : ℕ} → Eight s m r → Eight x n r → (k : ℕ) → k < 8 → get_or s (m + k) 0 ≡ get_or x (n + k) 0
  eight_once {m} {n} p q k l = go (dec_le 4 k)
    where
      low : p.low ≡ q.low
      low = omega (arith, p.is, q.is, four_small p.first, four_small q.first)

      high : p.high ≡ q.high
      high = omega (arith, p.is, q.is, four_small p.first, four_small q.first)

      go : Dec (4 ≤ k) → get_or s (m + k) 0 ≡ get_or x (n + k) 0
      go (yes h) =
          let e : m + 4 + (k - 4) ≡ m + k = omega (arith, h) in
          let f : n + 4 + (k - 4) ≡ n + k = omega (arith, h) in
          ap (λ (i : ℕ). get_or s i 0) (sym e) ∙ four_once (subst (Four s (m + 4)) high p.second) q.second (k - 4) (omega (arith, h, l)) ∙ ap (λ (i : ℕ). get_or x i 0) f
      go (no h) = four_once (subst (Four s m) low p.first) q.first k (omega (arith, h))

module _ (x s : List ℕ) (at : ℕ) where
  pub first_four : {r : ℕ} → Four s at r → Four x 0 r → Alike x s at 4
  first_four p q k h = let e : 0 + k ≡ k = omega arith in four_once p q k h ∙ ap (λ (n : ℕ). get_or x n 0) e

  -- some bytes more; they may overlap those before
  pub alike_more : {to m size : ℕ} → Alike x s at to → ((k : ℕ) → k < size → get_or s (at + m + k) 0 ≡ get_or x (m + k) 0) → m ≤ to → Alike x s at (m + size)
  alike_more {to} {m} {size} a same h k j = cases (dec_le to k)
    where
      cases : Dec (to ≤ k) → get_or s (at + k) 0 ≡ get_or x k 0
      cases (yes l) =
          let e : m + (k - m) ≡ k = omega arith in
          let f : at + m + (k - m) ≡ at + k = omega arith in
          ap (λ (n : ℕ). get_or s n 0) (sym f) ∙ same (k - m) (omega arith) ∙ ap (λ (n : ℕ). get_or x n 0) e
      cases (no l) = a k (omega arith)

pub stands_took : {x s : List ℕ} {at : ℕ} → StandsAt x s at → Took (λ (u : Unit {0}). these x) anything at (drop at s) (length x) (length x)
stands_took {x} {s} {at} h =
    these_took x (drop at s) at (ap (take (length x)) h.here ∙ take-append_seam x (drop (at + length x) s) ∙ sym (take-length x))
