-- Two allowed answers of `layout` are equal. It speaks of the promise alone.
use Prim.Native.Nat.{ℕ}
use native.Mathlib.Omega.{arith}
use mathlib.Core.Path.{◌≡◌, refl, ap}
use mathlib.Core.List.{List}
use Rattle.paper.proofs.Once.{strays_once}
use Rattle.read_layout.specs.Says.{Refuses, too_long, strays, Lays, Shape, ShapeSays}
use Rattle.std.specs.Prelude.{Ok, Err}
use Rattle.paper.specs.declared.Refused.{Refused}

not_both : {w : List ℕ} {n p : ℕ} → Lays w → Refuses w n p → ⊥
not_both l (too_long h) = omega (arith, l.short)
not_both l (strays h s) = s.stray l.listing l.laid

abbrev refused : ℕ → ℕ → Refused
refused n p = record { rule = n; place = p }

refuses_once : {w : List ℕ} {n p m q : ℕ} → Refuses w n p → Refuses w m q → refused n p ≡ refused m q
refuses_once (too_long h) (too_long k) = refl
refuses_once (too_long h) (strays k s) = absurd (omega arith)
refuses_once (strays h s) (too_long k) = absurd (omega arith)
refuses_once (strays h s) (strays k t) = ap (refused 2) (strays_once s t)

pub shape_once : (w : List ℕ) (a b : Shape) → ShapeSays w a → ShapeSays w b → a ≡ b
shape_once w (Ok u) (Ok v) x y = refl
shape_once w (Ok u) (Err r) x y = absurd (not_both x y)
shape_once w (Err r) (Ok u) x y = absurd (not_both y x)
shape_once w (Err r) (Err q) x y = ap Err (refuses_once x y)
