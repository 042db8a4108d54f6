-- Rule 25 of what is kept of a segment or site is rule 25 of the segment or site.
use Prim.Native.Nat.{ℕ, ◌+◌, ◌≤◌, ◌<◌}
use native.Mathlib.Omega.{arith}
use mathlib.Core.Path.{◌≡◌, refl, sym, ◌∙◌}
use mathlib.Core.Bool.{Bool, true, false, ◌||◌}
use lib.Dec.{ltb}
use borrow.Author.Tests.{ltb-true, ltb-false, lt-ltb, le-ltb}
use Rattle.paper.specs.Locations.{Piece, point, before, after, range, site, is_segment, first_of, last_of, mark, signs, is_wrong}
use Rattle.location_judge.specs.Readings.{kept, Keeps, wrong_of}
use Rattle.location_judge.specs.declared.pieces.Reach.{Reach}

pub mark_most : (c : Bool) (n : ℕ) → mark c n ≤ n
mark_most true n = omega arith
mark_most false n = omega arith

segment_marks : (c : Bool) (p : Piece) → ltb (mark c 1 + signs p) 8 ≡ is_segment p
segment_marks c (point x) = lt-ltb (mark c 1 + 0) 8 (omega (arith, mark_most c 1))
segment_marks c (before x) = lt-ltb (mark c 1 + 2) 8 (omega (arith, mark_most c 1))
segment_marks c (after x) = lt-ltb (mark c 1 + 4) 8 (omega (arith, mark_most c 1))
segment_marks c (range less x more y) =
    lt-ltb (mark c 1 + (mark less 2 + mark more 4)) 8 (omega (arith, mark_most c 1, mark_most less 2, mark_most more 4))
segment_marks c (site x y) = le-ltb (mark c 1 + 8) 8 (omega arith)

-- a segment is told from a site by its marks
pub keeps_segment : {c odd : Bool} {p : Piece} {a : Reach} → Keeps c p a odd → ltb a.marks 8 ≡ is_segment p
keeps_segment {c} {odd} {p} k = rw k.marks (segment_marks c p)

module _ (L : ℕ) where
  twice : (x : ℕ) → ltb L x ≡ (ltb L x || ltb L x || ltb x x)
  twice x = rw (le-ltb x x (omega arith)) (go (ltb L x))
    where
      go : (b : Bool) → b ≡ (b || b || false)
      go true = refl
      go false = refl

  shape : (c : Bool) (p : Piece) → is_wrong L p ≡ wrong_of L (first_of p) (last_of p) (mark c 1 + signs p)
  shape c (point x) = rw (segment_marks c (point x)) (twice x)
  shape c (before x) = rw (segment_marks c (before x)) (twice x)
  shape c (after x) = rw (segment_marks c (after x)) (twice x)
  shape c (range less x more y) = rw (segment_marks c (range less x more y))
  shape c (site x y) = rw (segment_marks c (site x y))

  module _ (h : L < 4294967296) where
    above : (x : ℕ) → ltb L (kept x) ≡ ltb L x
    above x = go (ltb L x) refl
      where
        go : (b : Bool) → ltb L x ≡ b → ltb L (kept x) ≡ b
        go true e = lt-ltb L (kept x) (omega (arith, ltb-true L x e))
        go false e = le-ltb L (kept x) (omega (arith, ltb-false L x e))

    exact : (x y m : ℕ) → wrong_of L (kept x) (kept y) m ≡ wrong_of L x y m
    exact x y m = go (ltb L x) refl (ltb L y) refl
      where
        go : (a : Bool) → ltb L x ≡ a → (b : Bool) → ltb L y ≡ b → wrong_of L (kept x) (kept y) m ≡ wrong_of L x y m
        go true e _ _ = rw (above x, e)
        go false e true f = rw (above x, above y, e, f)
        go false e false f =
            let p : kept x ≡ x = omega (arith, ltb-false L x e) in
            let q : kept y ≡ y = omega (arith, ltb-false L y f) in
            λ i. wrong_of L (p i) (q i) m

    pub keeps_wrong : {c odd : Bool} {p : Piece} {a : Reach} → Keeps c p a odd → wrong_of L a.first a.last a.marks ≡ is_wrong L p
    keeps_wrong {c} {odd} {p} k =
        rw (k.first, k.last, k.marks) (exact (first_of p) (last_of p) (mark c 1 + signs p) ∙ sym (shape c p))
