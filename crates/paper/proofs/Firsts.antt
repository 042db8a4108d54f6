-- The first broken rule: there is one at most.
use Prim.Native.Nat.{ℕ}
use native.Mathlib.Omega.{arith}
use mathlib.Core.Path.{◌≡◌, refl}
use mathlib.Core.Logic.{inl, inr}
use Rattle.paper.specs.Rules.{Before, First}

pub before_self : (n p : ℕ) → Before n p n p
before_self n p = inr (refl, omega arith)

pub before_trans : (n p m q k r : ℕ) → Before n p m q → Before m q k r → Before n p k r
before_trans n p m q k r (inl a) (inl b) = inl (omega arith)
before_trans n p m q k r (inl a) (inr b) = inl (omega arith)
before_trans n p m q k r (inr a) (inl b) = inl (omega arith)
before_trans n p m q k r (inr a) (inr b) = inr (omega arith, omega arith)

before_both : (n p m q : ℕ) → Before n p m q → Before m q n p → (n ≡ m) × (p ≡ q)
before_both n p m q (inl a) (inl b) = absurd (omega arith)
before_both n p m q (inl a) (inr b) = absurd (omega arith)
before_both n p m q (inr a) (inl b) = absurd (omega arith)
before_both n p m q (inr a) (inr b) = (omega arith, omega arith)

-- the first broken rule is unique
pub first_once : {S : ℕ → ℕ → Type 0} (n p m q : ℕ) → First S n p → First S m q → (n ≡ m) × (p ≡ q)
first_once n p m q a b = before_both n p m q (a.least m q b.broken) (b.least n p a.broken)
