-- Codons of one span, one after another: those passed are the value's letters.
use Prim.Native.Nat.{ℕ, ◌+◌, ◌*◌, ◌≤◌, ◌<◌}
use Prim.Native.Char.{code}
use native.Mathlib.Omega.{arith}
use mathlib.Core.Path.{◌≡◌, subst, ◌∙◌}
use mathlib.Core.List.{List}
use lib.ListN.{length, get_or}
use borrow.Author.Count.{below_more}
use Rattle.protein_codons.proofs.Stops.{none_more, clear_start}
use Rattle.protein_compare.specs.Comparing.{Same}

pub same_start : {low high from : ℕ} (l : List ℕ) {value : List ℕ} → low ≤ high → from ≤ length value → Same low high l value from 0
same_start l h i = record { front = clear_start l h; inside = omega arith; same = λ k z. absurd (omega arith) }

pub same_more : {low high from n c : ℕ} {l value : List ℕ} → Same low high l value from n → low + 3 * (n + 1) ≤ high → from + n < length value
    → c ≡ get_or l n 0 → (c ≡ code "*" → ⊥) → get_or value (from + n) 0 ≡ c → Same low high l value from (n + 1)
same_more {n = n} f h i e k z =
    record {
      front = record { within = h; clear = none_more f.front.clear e k };
      inside = omega arith;
      same = below_more _ n f.same (z ∙ e);
    }

pub same_are : {low high from n m : ℕ} {l value : List ℕ} → Same low high l value from n → n ≡ m → Same low high l value from m
same_are {low} {high} {from} {n} {m} {l} {value} f e = subst (Same low high l value from) e f
