-- Codons of one span, laid run after run.
use Prim.Native.Nat.{ℕ, ◌+◌, ◌*◌, ◌≤◌, ◌<◌}
use mathlib.Core.Path.{◌≡◌, refl, subst, ◌∙◌}
use mathlib.Core.List.{List}
use lib.ListN.{length, get_or, set, length-set}
use Rattle.lent_room.proofs.Leaves.{sets_more}
use Rattle.protein_write.specs.Writing.{LaysLettersOn, LaysLetters}

module _ (l : List ℕ) (from k : ℕ) (out : List ℕ) where
  pub lays_none : LaysLettersOn l from k k out out
  lays_none = record { size = refl; is = λ o h. h }

  pub lays_more : {n c : ℕ} {after : List ℕ} → LaysLettersOn l from k n out after → n < length l → c ≡ get_or l n 0
      → LaysLettersOn l from k (n + 1) out (set after (from + n) c)
  lays_more {n} {c} {after} f h e =
      record {
        size = length-set after (from + n) c ∙ f.size;
        is = λ o w. rw (f.is o w, e) (sets_more l o from n h);
      }

-- that many
pub lays_are : {l : List ℕ} {from k n m : ℕ} {out after : List ℕ} → LaysLettersOn l from k n out after → n ≡ m → LaysLettersOn l from k m out after
lays_are {l} {from} {k} {n} {m} {out} {after} f e = subst (λ (n : ℕ). LaysLettersOn l from k n out after) e f

-- runs of codons, one behind another
pub lays_join : {l : List ℕ} {from a b c : ℕ} {x y z : List ℕ} → LaysLettersOn l from a b x y → LaysLettersOn l from b c y z → LaysLettersOn l from a c x z
lays_join f g = record { size = g.size ∙ f.size; is = λ o h. g.is o (f.is o h) }

pub lays_all : {low high from count n : ℕ} {l out after : List ℕ} → LaysLettersOn l from 0 n out after → low + 3 * n ≤ high
    → from + n ≤ count → LaysLetters low high l from count n out after
lays_all {out = out} f h i = record { within = h; inside = i; is = f.is out refl }
