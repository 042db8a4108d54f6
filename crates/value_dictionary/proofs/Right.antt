-- A dictionary's rule, from two tests that antt computes over the whole table: of its slots, and of its texts.
use Prim.Native.Nat.{ℕ, zero, suc, ◌+◌, ◌-◌, ◌/◌, ◌%◌, ◌≤◌, ◌<◌}
use native.Mathlib.Omega.{arith}
use mathlib.Core.Path.{◌≡◌, sym, ap}
use mathlib.Core.Bool.{Bool, true, false, true≢false, ◌&&◌, and-eq-true_iff}
use mathlib.Core.List.{List, [], ◌∷◌}
use lib.ListN.{length, get_or, take, drop}
use lib.Dec.{ltb}
use borrow.Author.Tests.{ltb-true}
use Rattle.paper.specs.Bytes.{same}
use Rattle.paper.proofs.Tables.{all_from, each_at}
use Rattle.paper.proofs.Texts.{same_is}
use Rattle.value_dictionary.specs.Texts.{byte_of, slot_of, entry_of, Dictionary}

-- the first m bytes are below n
abbrev pub all_below : (n m : ℕ) → List ℕ → Bool
all_below n zero t = true
all_below n (suc m) [] = false
all_below n (suc m) (b ∷ t) = ltb b n && all_below n m t

below_at : (n m : ℕ) (t : List ℕ) → all_below n m t ≡ true → (i : ℕ) → i < m → byte_of t i < n
below_at n zero t e i h = absurd (omega (arith, h))
below_at n (suc m) [] e i h = absurd (true≢false (sym e))
below_at n (suc m) (b ∷ t) e zero h = ltb-true b n ((and-eq-true_iff (ltb b n) (all_below n m t)).0 e).0
below_at n (suc m) (b ∷ t) e (suc i) h = below_at n m t ((and-eq-true_iff (ltb b n) (all_below n m t)).0 e).1 i (omega (arith, h))

-- what the two bytes of a text tell; that they are an argument has them looked up once
abbrev pub told : List ℕ → ℕ → List ℕ
told t entry = entry % 32 ∷ take (entry % 32) (drop (entry / 32) t)

-- what stands in the table for the text w of number k, and what should
abbrev pub shown_of : (factor mask : ℕ) → List ℕ → ℕ → List ℕ → List ℕ
shown_of factor mask t k w = (2 - length w) ∷ byte_of t (slot_of factor mask w) ∷ told t (entry_of mask t k)

abbrev pub wanted_of : ℕ → List ℕ → List ℕ
wanted_of k w = 0 ∷ k ∷ length w ∷ w

module _ (factor mask : ℕ) (l : List (List ℕ)) (t : List ℕ) where
  abbrev pub entry_right : ℕ → List ℕ → Bool
  entry_right k w = same (shown_of factor mask t k w) (wanted_of k w)

  pub dictionary_right : length l ≤ 255 → all_below (length l) (mask + 1) t ≡ true → all_from entry_right 0 l ≡ true → Dictionary factor mask l t
  dictionary_right few slots entries =
      record {
        few = few;
        full = λ i h. below_at (length l) (mask + 1) t slots i (omega (arith, h));
        long = λ k h. omega (arith, part 0 k h);
        slot = part 1;
        size = part 2;
        text = λ k h. ap (λ (x : List ℕ). drop 3 x) (at k h);
      }
    where
      at : (k : ℕ) → k < length l → shown_of factor mask t k (get_or l k []) ≡ wanted_of k (get_or l k [])
      at k h = same_is (shown_of factor mask t k (get_or l k [])) (wanted_of k (get_or l k [])) (each_at entry_right l [] entries k h)

      part : (i k : ℕ) → k < length l → get_or (shown_of factor mask t k (get_or l k [])) i 0 ≡ get_or (wanted_of k (get_or l k [])) i 0
      part i k h = ap (λ (x : List ℕ). get_or x i 0) (at k h)
