-- The parts that are shown: the stretch of a text, and the bytes of a stretch.
use Prim.Native.Nat.{ℕ, ◌+◌, ◌-◌, ◌≤◌, ◌<◌}
use native.Mathlib.Omega.{arith}
use mathlib.Core.Path.{◌≡◌, refl, ap}
use mathlib.Core.List.{List}
use lib.ListN.{length, take, drop, length-append, length-drop}
use Rattle.paper.specs.Bytes.{raw}
use Rattle.walk_steps.specs.declared.Range.{Range}
use Rattle.ask_answers.specs.Stretches.{no_stretch, Lies}
use Rattle.ask_answers.specs.declared.Stretch.{Stretch}
use Rattle.ask_show.specs.Shown.{StretchOf, PointsAt}

pub stretch_none : {p : Range} → p.to < p.from → StretchOf p no_stretch
stretch_none h = record { so = λ k. absurd (omega (arith, h, k)); none = λ k. refl; says = λ s x i. absurd (omega (arith, i.first, i.behind, h)) }

pub stretch_so : {p : Range} → p.from ≤ p.to → StretchOf p (record { start = p.from; size = p.to - p.from })
stretch_so {p} h =
    record {
      so = λ k. refl;
      none = λ k. absurd (omega (arith, h, k));
      says =
          λ s x i.
          let n : p.to - p.from ≡ length (raw x.read) = omega (arith, i.first, i.behind) in
          let e = i.first in (
            λ j. record { start = e j; size = n j },
            omega (arith, n, i.inside, length-drop p.from s, ap length i.here, length-append (raw x.read) (drop p.to s)),
          );
    }

-- ---- the bytes of a stretch

pub points_so : {w : List ℕ} {at : ℕ × ℕ} (x : Stretch) → Lies w x → PointsAt w at x (take (x.start + x.size - x.start) (drop x.start w)) (at.0, x.start + at.1)
points_so {w} x l =
    record {
      says =
          λ h.
          record {
            bytes = ap (λ (n : ℕ). take n (drop x.start w)) (let e : x.start + x.size - x.start ≡ x.size = omega arith in e);
            there = refl;
          };
      none = λ n. absurd (n l);
    }

-- where it lies outside, none
pub points_none : {w : List ℕ} {at : ℕ × ℕ} (x : Stretch) → length w < x.start + x.size → PointsAt w at x (take 0 (drop 0 w)) (at.0, 0 + at.1)
points_none x h = record { says = λ l. absurd (omega (arith, h, l)); none = λ n. record { bytes = refl; there = refl } }
