-- The residues of a span, and the first of them on either strand.
use Prim.Native.Nat.{ℕ, suc, ◌+◌, ◌-◌, ◌%◌, ◌≤◌, ◌<◌}
use native.Mathlib.Numerals.{add-one}
use native.Mathlib.Omega.{arith}
use mathlib.Core.Path.{◌≡◌, refl, sym, ap, ◌∙◌}
use mathlib.Core.Bool.{Bool, true, false}
use mathlib.Core.List.{List, [], ◌∷◌, ◌++◌, map, reverse, reverse-append, map-append}
use lib.ListN.{length, take, drop, get_or, length-reverse, length-map, length-drop}
use lib.Dec.{eqb}
use lib.Seq.{slice, slice-cons, take-add, take-suc, drop_at, drop-drop, drop-append-le, length-take-le, length-slice}
use Rattle.paper.specs.Translation.{complement_of, stretch}
use Rattle.location_spans.specs.declared.walking.Triple.{Triple}
use Rattle.location_spans.specs.declared.walking.Walk.{Walk}
use Rattle.protein_codons.specs.Reading.{strand, Opens}

-- residues first to last are those from the place of the first on
pub stretch_is : (s : List ℕ) (first last : ℕ) → 1 ≤ first → first ≤ last → first ≤ length s → slice (first - 1) last s ≡ stretch s first last
stretch_is s first last a b c =
    let k = first - 1 in
    let n = suc last - first in
    let e : last ≡ k + n = omega arith in
    ap (λ (h : ℕ). slice k h s) e ∙ ap (drop k) (take-add k n s) ∙ drop_at (take k s) (take n (drop k s)) k (length-take-le k s (omega arith))

-- a false site has none
pub stretch_none : (s : List ℕ) (first last : ℕ) → last < first → stretch s first last ≡ []
stretch_none s first last h = let e : suc last - first ≡ 0 = omega arith in rw e

pub strand_none : (turned : Bool) → strand turned [] ≡ []
strand_none true = refl
strand_none false = refl

module _ (s : List ℕ) where
  pub first_ahead : (low high : ℕ) → low < high → high ≤ length s → slice low high s ≡ get_or s low 0 ∷ slice (low + 1) high s
  first_ahead low high h k = rw (add-one low) (slice-cons low high s 0 h k)

  last_of : (low at : ℕ) → low ≤ at → at < length s → slice low (suc at) s ≡ slice low at s ++ (get_or s at 0 ∷ [])
  last_of low at h k =
      ap (drop low) (take-suc s at 0 k)
      ∙ drop-append-le low (take at s) (get_or s at 0 ∷ []) (let e = length-take-le at s (omega arith) in omega arith)

  pub first_behind : (low high : ℕ) → low < high → high ≤ length s
      → reverse (map complement_of (slice low high s)) ≡ complement_of (get_or s (high - 1) 0) ∷ reverse (map complement_of (slice low (high - 1) s))
  first_behind low high h k =
      let at = high - 1 in
      let e : high ≡ suc at = omega arith in
      ap (λ (n : ℕ). reverse (map complement_of (slice low n s))) e
      ∙ ap (λ (l : List ℕ). reverse (map complement_of l)) (last_of low at (omega arith) (omega arith))
      ∙ ap reverse (map-append complement_of (slice low at s) (get_or s at 0 ∷ []))
      ∙ reverse-append (map complement_of (slice low at s)) (complement_of (get_or s at 0) ∷ [])

  module _ (low high : ℕ) (h : 3 ≤ high - low) (k : high ≤ length s) where
    pub three_ahead : slice low high s ≡ get_or s low 0 ∷ get_or s (low + 1) 0 ∷ get_or s (low + 2) 0 ∷ slice (low + 3) high s
    three_ahead =
        let two : low + 1 + 1 ≡ low + 2 = omega arith in
        let three : low + 2 + 1 ≡ low + 3 = omega arith in
        let a = first_ahead low high (omega arith) k in
        let b = rw two at (first_ahead (low + 1) high (omega arith) k) in
        let c = rw three at (first_ahead (low + 2) high (omega arith) k) in
        a ∙ ap (λ (l : List ℕ). get_or s low 0 ∷ l) (b ∙ ap (λ (l : List ℕ). get_or s (low + 1) 0 ∷ l) c)

    pub three_behind : reverse (map complement_of (slice low high s))
        ≡ complement_of (get_or s (high - 1) 0) ∷ complement_of (get_or s (high - 2) 0) ∷ complement_of (get_or s (high - 3) 0)
        ∷ reverse (map complement_of (slice low (high - 3) s))
    three_behind =
        let two : high - 1 - 1 ≡ high - 2 = omega arith in
        let three : high - 2 - 1 ≡ high - 3 = omega arith in
        let a = first_behind low high (omega arith) k in
        let b = rw two at (first_behind low (high - 1) (omega arith) (omega arith)) in
        let c = rw three at (first_behind low (high - 2) (omega arith) (omega arith)) in
        a ∙ ap (λ (l : List ℕ). complement_of (get_or s (high - 1) 0) ∷ l) (b ∙ ap (λ (l : List ℕ). complement_of (get_or s (high - 2) 0) ∷ l) c)

-- ---- what is left behind some residues

module _ (s : List ℕ) where
  pub strand_length : (turned : Bool) (low high : ℕ) → high ≤ length s → length (strand turned (slice low high s)) ≡ high - low
  strand_length true low high h =
      length-reverse (map complement_of (slice low high s)) ∙ length-map (slice low high s) complement_of ∙ length-slice low high s h
  strand_length false low high h = length-slice low high s h

  pub drop_ahead : (low high j : ℕ) → slice (low + j) high s ≡ drop j (slice low high s)
  drop_ahead low high j = sym (drop-drop j low (take high s))

  pub drop_behind : (low high j : ℕ) → low + j ≤ high → high ≤ length s
      → reverse (map complement_of (slice low (high - j) s)) ≡ drop j (reverse (map complement_of (slice low high s)))
  drop_behind low high j h k =
      let at = high - j in
      let front = slice low at s in
      let back = take j (drop at s) in
      let e : high ≡ at + j = omega arith in
      let n : length (take at s) ≡ at = length-take-le at s (omega arith) in
      let m : length back ≡ j = length-take-le j (drop at s) (omega (arith, length-drop at s)) in
      let split : slice low high s ≡ front ++ back
      = ap (λ (i : ℕ). slice low i s) e ∙ ap (drop low) (take-add at j s) ∙ drop-append-le low (take at s) back (omega arith) in
      let turn : reverse (map complement_of (slice low high s)) ≡ reverse (map complement_of back) ++ reverse (map complement_of front)
      = ap (λ (l : List ℕ). reverse (map complement_of l)) split
      ∙ ap reverse (map-append complement_of front back)
      ∙ reverse-append (map complement_of front) (map complement_of back) in
      sym
      (ap (drop j) turn
      ∙ drop_at (reverse (map complement_of back)) (reverse (map complement_of front)) j (length-reverse (map complement_of back) ∙ length-map back complement_of ∙ m))

-- ---- the whole of a span

module _ (x : Triple) (w : Walk) where
  pub opens_none : x.last < x.first → Opens x w (record { walk = w; span = record { low = 0; high = 0; turned = eqb (x.marks % 2) 1 } })
  opens_none h =
      record {
        order = omega arith;
        inside = omega arith;
        walk = refl;
        is = λ s k. ap (strand (eqb (x.marks % 2) 1)) (sym (stretch_none s x.first x.last h));
      }

  pub opens_some : 1 ≤ x.first → x.first ≤ x.last → Opens x w (record { walk = w; span = record { low = x.first - 1; high = x.last; turned = eqb (x.marks % 2) 1 } })
  opens_some a b =
      record {
        order = omega arith;
        inside = omega arith;
        walk = refl;
        is = λ s k. ap (strand (eqb (x.marks % 2) 1)) (stretch_is s x.first x.last a b k);
      }
