-- An operator's number is small, so any type of number holds it.
use Prim.Native.Nat.{ℕ, ◌≤◌}
use native.Mathlib.Omega.{arith}
use mathlib.Core.Path.{ap}
use mathlib.Core.List.{List}
use Rattle.paper.specs.Locations.{Location, one, many, join, order, operator_number}
use Rattle.paper.specs.Answers.{FeatureShown, FeatureSays}
use Rattle.paper.specs.Index.{WithIndex, IndexedFeatureSays}

number_most : (t : Location) → operator_number t ≤ 2
number_most (one m) = omega arith
number_most (many c join l) = omega arith
number_most (many c order l) = omega arith

pub operator_most : {w : List ℕ} {k j : ℕ} {out after : List ℕ} {n p : ℕ} {x : FeatureShown} → FeatureSays w k j out n p x after → x.operator ≤ 99
operator_most (FeatureSays.refused c) = omega arith
operator_most (FeatureSays.short c l) = omega arith
operator_most (FeatureSays.found {t = t} c l) = omega (arith, number_most t)

pub indexed_operator_most : {w x : List ℕ} {k j : ℕ} {out after : List ℕ} {n p : ℕ} {y : FeatureShown} → IndexedFeatureSays w x k j out n p y after
    → y.operator ≤ 99
indexed_operator_most (WithIndex.refused c z) = omega (arith, ap (λ (y : FeatureShown). y.operator) z.0)
indexed_operator_most (WithIndex.taken c s) = operator_most s
